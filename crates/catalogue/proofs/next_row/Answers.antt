-- `catalogue::next_row` meets its contract. The loop's invariant is `Searching` of `laws.NextRow`: the rows passed lead to all but `rest` of what stands before the
-- position, and there is a row more. So a row that leads to more than `rest` is the one; else a later one is (`searching_more`), and the loop is left by a row that
-- was found.
-- Assumes nothing.
use native.Mathlib.Omega.{arith}
use Rattle.catalogue.proofs.laws.NextRow.{searching_none, searching_more}
use Rattle.catalogue.proofs.next_row.Goals as goal

pub loop-row-init : goal.loop-row-init
loop-row-init c = searching_none

pub loop-row-preserved : goal.loop-row-preserved
loop-row-preserved c =
    searching_more c.loop-row.invariant c.completions_with-here.ensures (omega arith) c.requires
