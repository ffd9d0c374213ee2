-- `inversion::elimination::take_right` meets its contract. The loop's invariant, `Stored` of matrices: the first i rows on the right of the
-- work area are stored in b, which has kept its length. A turn stores row i (`stored_more`).
-- Assumes nothing.
use mathlib.Core.Path.{◌∙◌}
use Rattle.matrices.proofs.laws.Rows.{stored_none, stored_more}
use Rattle.inversion.proofs.laws.Rows.{row_is}
use native.Mathlib.Omega.{arith}
use Rattle.inversion.proofs.elimination.take_right.Goals as goal

pub loop-i-init : goal.loop-i-init
loop-i-init g c = stored_none

pub loop-i-preserved : goal.loop-i-preserved
loop-i-preserved g c =
    stored_more c.loop-i.invariant c.loop-i-test.true c.set_row.ensures
    (c.inverse_row.ensures ∙ row_is _ _ _ _ (omega arith) c.index-work-i.is)
