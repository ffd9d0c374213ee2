-- `bits::vector::write` meets its contract. The loop's invariant, `Filled` of `laws.Filled`: the first i places hold the first i bytes of the
-- number. A turn stores byte w - 1 - i from the bottom, which is byte i (`byte_from_bottom` of `laws.Bytes`, with `filled_more`); behind the
-- last place the list is the number's bytes (`filled_all`).
-- Assumes nothing.
use Rattle.bits.specs.Bytes.{bytes_of}
use Rattle.bits.proofs.laws.Bytes.{byte_from_bottom}
use Rattle.bits.proofs.laws.Filled.{filled_none, filled_more, filled_all}
use Rattle.bits.proofs.vector.write.Goals as goal

pub loop-i-init : goal.loop-i-init
loop-i-init c = search filled_none

pub loop-i-preserved : goal.loop-i-preserved
loop-i-preserved c = search (filled_more, byte_from_bottom)

pub returns : goal.returns
unfolding bytes_of
returns c = search filled_all
