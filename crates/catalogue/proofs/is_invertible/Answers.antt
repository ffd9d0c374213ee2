-- `catalogue::is_invertible` meets its contract. The kernel of the four rows, one row after the other, is 0 alone exactly where the matrix has an inverse
-- (`number_tested` of `laws.Kernels`). The constant that is laid out is `kernel_table` of `laws.Tables`, so each AND with an entry of it is the kernel with one row
-- more (`with_row`). A quotient of a number of 16 bits by 16, three times, is a row.
-- Assumes nothing.
use native.Mathlib.Omega.{arith}
use Rattle.catalogue.proofs.laws.Kernels.{number_tested}
use Rattle.catalogue.proofs.laws.Tables.{kernel_table, with_row}
use Rattle.catalogue.proofs.is_invertible.Goals as goal

pub returns : goal.returns
unfolding kernel_table
returns c =
    rw c.from-v.ensures (
    number_tested c.args.number (omega arith) (with_row _ _ (omega arith)) (with_row _ _ (omega arith)) (with_row _ _ (omega arith)) (with_row _ _ (omega arith)))
