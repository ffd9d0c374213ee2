-- `matrices::matrix::read` meets its contract. The loop's invariant, `Stored` of `laws.Rows`: the first i rows of the matrix that the bytes
-- write are stored, and the words have kept their length. A turn reads the w bytes of row i (`row_read` of `laws.Stored`) and stores the row
-- (`stored_more`); behind the last row all are (`stored_all`). The bytes of a row lie within those of the matrix (`row_within`), at most 2048
-- of them, so no index wraps.
-- Assumes nothing.
use Rattle.matrices.proofs.laws.Rows.{stored_none, stored_more, stored_all}
use Rattle.matrices.proofs.laws.Stored.{row_within, row_read}
use native.Mathlib.Omega.{arith}
use Rattle.matrices.proofs.matrix.read.Goals as goal

pub loop-i-init : goal.loop-i-init
loop-i-init c = stored_none

pub overflow_mul-i : goal.overflow_mul-i
overflow_mul-i c =
    omega (arith, row_within _ _ c.loop-i-test.true)

pub read-v-requires : goal.read-v-requires
read-v-requires c =
    omega (arith, row_within _ _ c.loop-i-test.true)

pub loop-i-preserved : goal.loop-i-preserved
loop-i-preserved c = search (stored_more, row_read)

pub returns : goal.returns
returns c = search stored_all
