-- `external::coding::decode_by`: where `ready` finds nothing against the call, the encodings are taken off and the block is multiplied by the
-- matrix's inverse (`decoded_by` of `laws.Code`); else its refusal is the answer and the lent block is left as it was (`refused`). What the two
-- steps ask holds of what an accepted call is lent (`accepted_ready`): blocks of 16 bytes, and an accepted bundle, whose encodings are permutations
-- (`called_encodings`).
-- Assumes nothing.
use mathlib.Core.Path.{refl}
use Rattle.external.proofs.laws.Code.{accepted_ready, called_encodings, nibbles_long, decoded_by}
use Rattle.external.proofs.coding.decode_by.Goals as goal

pub decode_nibbles-requires : goal.decode_nibbles-requires
decode_nibbles-requires c =
    let ready = accepted_ready c.ready.ensures c.in_ok-ready.was in
    let permutations = called_encodings _ _ (λ i. (c.type_inv.bundle i).fits) ready.judged refl _ c.requires.codes.inside in
    record { small = c.requires.codes.small; read = ready.long; written = refl; permutations = permutations }

pub unmultiply-requires : goal.unmultiply-requires
unmultiply-requires c =
    let ready = accepted_ready c.ready.ensures c.in_ok-ready.was in
    record {
      matrix = c.requires.codes.matrix ready.judged;
      read = nibbles_long _ _ _ _ c.decode_nibbles.ensures;
      written = ready.room;
      inverse = c.requires.inverse ready.judged;
    }

pub returns-clause-block : goal.returns-clause-block
returns-clause-block c = decoded_by c.ready.ensures c.in_ok-ready.was _ _ _ _ _ _ _ c.decode_nibbles.ensures c.unmultiply.ensures
