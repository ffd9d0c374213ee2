-- `external::block::decode_nibbles`: the loop fills the lent block, byte i with the two nibbles of the block's byte i taken out of their encodings
-- (`byte_by` of `laws.Code`); its invariant is `Filled` of `bits`. What `decoded` asks of byte i's two encodings is what the `requires` says of all
-- (`byte_permutations`). Behind the loop these bytes are the decoded nibbles (`decode_filled`).
-- Assumes nothing.
use Rattle.bits.proofs.laws.Filled.{filled_none, filled_more}
use Rattle.bundle.specs.Format.{encoding_of}
use Rattle.external.proofs.laws.Code.{byte_permutations, decode_filled}
use native.Mathlib.Omega.{arith}
use Rattle.external.proofs.block.decode_nibbles.Goals as goal

pub loop-i-init : goal.loop-i-init
loop-i-init c = filled_none _ _ _ (search)

pub decoded-b-requires : goal.decoded-b-requires
decoded-b-requires c =
    let both = byte_permutations (encoding_of _ _) c.args.first c.requires.permutations _ c.loop-i-test.true in
    (omega arith, both.0, both.1)

pub loop-i-preserved : goal.loop-i-preserved
loop-i-preserved c = search filled_more

pub returns : goal.returns
returns c =
    decode_filled _ _ _ c.loop-i.invariant (search)
