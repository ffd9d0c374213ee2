-- `catalogue::completions_with` meets its contract: the two cases of `completions` (`completions_none` and `completions_each` of `laws.NextRow`).
-- Assumes nothing.
use Rattle.catalogue.proofs.laws.NextRow.{completions_none, completions_each}
use Rattle.catalogue.proofs.completions_with.Goals as goal

pub returns-then-kernel_with-kernel : goal.returns-then-kernel_with-kernel
returns-then-kernel_with-kernel c =
    completions_none c.args.kernel c.args.each c.args.row c.kernel_with.ensures c.if-kernel_with-kernel.true

pub returns : goal.returns
returns c =
    completions_each c.args.kernel c.args.each c.args.row c.kernel_with.ensures c.if-kernel_with-kernel.false
