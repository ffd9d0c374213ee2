-- `narrow::invert_bytes` reads the bytes into rows, and is the elimination of these with a row beside another in a word, which they fit (`read_fits` of `laws.Halves`). The
-- rows are the matrix that the bytes write, so what `invert` ensures of the rows holds of that matrix (`read_inverted` of inversion's `laws.Inverses`). The arrays have
-- room for the 16 w words and the 8 w rows, as w is at most 4.
-- Assumes nothing.
use Rattle.inversion.proofs.laws.Inverses.{read_inverted}
use Rattle.narrow.proofs.laws.Halves.{read_fits}
use native.Mathlib.Omega.{arith}
use Rattle.narrow.proofs.invert_bytes.Goals as goal

pub invert-requires-clause-start : goal.invert-requires-clause-start
invert-requires-clause-start c = record {
  within = omega arith;
  rows = omega arith;
  room = omega arith;
  fit = read_fits _ _ _ _ c.requires.0 (λ j. (c.type_inv.p j).fits) (omega arith) c.read.ensures;
}

pub returns : goal.returns
returns c =
    let done = read_inverted _ _ _ _ _ (omega arith) c.read.ensures _ _ (c.invert.ensures.answer, c.invert.ensures.rows) in
    record { answer = done.0; rows = done.1 }
