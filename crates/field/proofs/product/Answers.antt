-- `field::product` meets its contract. The loop's invariant, `Summed` of `laws.Summed`: the sum, with x times the bits that are left in y, is
-- the product. A turn adds x where the lowest bit of y is 1, takes that bit away and doubles x in the field (`summed_more`); with no bit left
-- the sum is the product (`summed_all`).
-- Assumes nothing.
use Rattle.field.proofs.laws.Summed.{summed_none, summed_more, summed_all}
use Rattle.field.proofs.product.Goals as goal

pub loop-done-init : goal.loop-done-init
loop-done-init c = summed_none

pub loop-done-preserved : goal.loop-done-preserved
loop-done-preserved c = search summed_more

pub returns : goal.returns
returns c = search summed_all
