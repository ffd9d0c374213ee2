-- `bits::encoding::place` meets its contract. The loop's invariant, `Passed` of `laws.Images`: of the first i images none is y. A turn reads
-- image i: where it is y, i is the nibble sought (`passed_here`), else it is passed too (`passed_more`); behind the last image there is none
-- (`passed_all`).
-- Assumes nothing.
use Rattle.bits.proofs.laws.Images.{passed_none, passed_more, passed_here, passed_all}
use Rattle.bits.proofs.encoding.place.Goals as goal

pub loop-i-init : goal.loop-i-init
loop-i-init c = passed_none

pub returns-then-image-y : goal.returns-then-image-y
returns-then-image-y c = search passed_here

pub loop-i-preserved : goal.loop-i-preserved
loop-i-preserved c = search passed_more

pub returns : goal.returns
returns c = search passed_all
