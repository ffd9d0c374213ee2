-- `external::block::encode_nibbles`: the loop fills the lent block, byte i with the two images of the block's byte i (`byte_by` of `laws.Code`); its
-- invariant is `Filled` of `bits`. Behind the loop these bytes are the encoded nibbles (`encode_filled`).
-- Assumes nothing.
use Rattle.bits.proofs.laws.Filled.{filled_none, filled_more}
use Rattle.external.proofs.laws.Code.{encode_filled}
use Rattle.external.proofs.block.encode_nibbles.Goals as goal

pub loop-i-init : goal.loop-i-init
loop-i-init c = filled_none _ _ _ (search)

pub loop-i-preserved : goal.loop-i-preserved
loop-i-preserved c = search filled_more

pub returns : goal.returns
returns c =
    encode_filled _ _ _ c.loop-i.invariant (search)
