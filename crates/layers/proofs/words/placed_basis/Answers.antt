-- `layers::words::placed_basis` writes eight rows, for the bytes 2^0 to 2^7. The loop's invariant, `Stored` of matrices: the rows below k are the
-- products of the matrix that the bytes write and their bytes, placed at i of a block. A turn stores one more as row k (`stored_more`), the column
-- that `written_column` gives; behind row 7 the basis is whole.
-- Assumes nothing.
use Rattle.matrices.proofs.laws.Rows.{stored_none, stored_more}
use Rattle.layers.proofs.words.placed_basis.Goals as goal

pub loop-k-init : goal.loop-k-init
loop-k-init c = stored_none

pub loop-k-preserved : goal.loop-k-preserved
loop-k-preserved c = search stored_more
