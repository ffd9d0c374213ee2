-- `invertible::forward::clear` meets its contract. Row k, with row p added where it lacks bit k, is the elimination's row k behind the pivoting; the loop starts
-- with it and with all rows as they were (`rows_none`). The loop's invariant, `Rows` of `laws.Lists`: of the rows behind row k those before
-- row i are what the elimination makes of them, those from row i on are as they were, and the list has kept its length. A turn adds that sum
-- to row i where it has bit k (`rows_more`); behind the last row all are done (`rows_all`).
-- Assumes nothing.
use Rattle.invertible.proofs.laws.Lists.{rows_none, rows_more, rows_all}
use Rattle.invertible.proofs.forward.clear.Goals as goal

pub loop-i-init : goal.loop-i-init
loop-i-init g c =
    rows_none _ _ c.requires.step.room c.requires.step.column c.requires.row c.index-rows-k.is c.digit.ensures (search) c.add-cleared_by.ensures

pub loop-i-preserved : goal.loop-i-preserved
loop-i-preserved g c =
    rows_more c.loop-i.invariant c.requires.step.room c.loop-i-test.true c.index-rows-i.is c.digit-in-loop-i.ensures c.add.ensures

pub returns : goal.returns
returns g c =
    rows_all c.loop-i.invariant (search)
