-- What the functions of this crate ask where that is more than three things. Definitions only.
use Rattle.std.specs.Prelude.{List, ℕ, ◌*◌, ◌≤◌, length}
use Rattle.matrices.specs.Matrices.{matrix_of, Invertible}

-- Of a matrix of 8 w rows that the bytes p write, for its inverse in the front of the words b: `inverse::read`, which
-- each reader of a bundle's matrix calls.
pub record ForInverse (w : ℕ) (p b : List ℕ) : Type 0 where
  pub width : w ≤ 16
  pub written : 8 * w * w ≤ length p
  pub room : 16 * w ≤ length b
  pub invertible : Invertible (8 * w) (matrix_of w p)
