-- `inversion::invert_bytes` reads the bytes into rows and inverts these. The rows are the matrix that the bytes write, so what `invert` ensures of the
-- rows holds of that matrix (`read_inverted` of `laws.Inverses`). The array has room for the 16 w words of the rows, as w is at most 16.
-- Assumes nothing.
use Rattle.inversion.proofs.laws.Inverses.{read_inverted}
use native.Mathlib.Omega.{arith}
use Rattle.inversion.proofs.invert_bytes.Goals as goal

pub returns : goal.returns
returns c =
    let done = read_inverted _ _ _ _ _ (omega arith) c.read.ensures _ _ (c.invert.ensures.answer, c.invert.ensures.rows) in
    record { answer = done.0; rows = done.1 }
