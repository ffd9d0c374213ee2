-- `external::block::multiply`: the bytes are read into rows, and `times` multiplies by these. That the rows read are the matrix that the bytes
-- write is in `multiplied_read` of `laws.Code`.
-- Assumes nothing.
use Rattle.external.proofs.laws.Code.{multiplied_read}
use native.Mathlib.Omega.{arith}
use Rattle.external.proofs.block.multiply.Goals as goal

pub returns : goal.returns
returns c =
    multiplied_read _ _ _ _ _ (omega arith) c.read.ensures c.times.ensures
