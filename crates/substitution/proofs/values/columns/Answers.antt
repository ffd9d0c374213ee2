-- `substitution::values::columns` stores the 8 columns, a row each. The loop's invariant, `Stored` of matrices: the
-- first k rows are stored. A turn stores what `column` gives, which is the product with 2^k (`stored_more`); behind the
-- last all are stored.
-- Assumes nothing.
use Rattle.matrices.proofs.laws.Rows.{stored_none, stored_more}
use Rattle.substitution.proofs.values.columns.Goals as goal

pub loop-k-init : goal.loop-k-init
loop-k-init c = stored_none

pub loop-k-preserved : goal.loop-k-preserved
loop-k-preserved c =
    stored_more c.loop-k.invariant c.loop-k-test.true c.set_row.ensures c.column.ensures
