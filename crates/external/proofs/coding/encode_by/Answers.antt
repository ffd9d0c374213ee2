-- `external::coding::encode_by`: where `ready` finds nothing against the call, the block is multiplied and its nibbles are encoded (`encoded_by` of
-- `laws.Code`); else its refusal is the answer and the lent block is left as it was (`refused`). What the two steps ask holds of what an accepted
-- call is lent (`accepted_ready`): an accepted bundle and blocks of 16 bytes.
-- Assumes nothing.
use mathlib.Core.Path.{refl}
use Rattle.external.proofs.laws.Code.{accepted_ready, multiply_long, encoded_by}
use Rattle.external.proofs.coding.encode_by.Goals as goal

pub multiply-requires : goal.multiply-requires
multiply-requires c =
    let ready = accepted_ready c.ready.ensures c.in_ok-ready.was in
    (c.requires.matrix ready.judged, ready.long, refl)

pub encode_nibbles-requires : goal.encode_nibbles-requires
encode_nibbles-requires c =
    let ready = accepted_ready c.ready.ensures c.in_ok-ready.was in
    (c.requires.small, multiply_long _ _ _ c.multiply.ensures, ready.room)

pub returns-clause-block : goal.returns-clause-block
returns-clause-block c = encoded_by c.ready.ensures c.in_ok-ready.was _ _ _ _ _ _ _ c.multiply.ensures c.encode_nibbles.ensures
