-- The codings that tables are made from: encodings (document 01: lists) and mixing matrices by number. A matrix is the list of its
-- rows. Definitions only.
use Rattle.std.specs.Prelude.{List, ℕ, ◌+◌, ◌-◌, ◌*◌}
use Rattle.bits.specs.Encodings.{Permutation}
use Rattle.bits.specs.Lists.{at}
use Rattle.matrices.specs.Matrices.{RowsFit, Invertible}

pub record Codings : Type 0 where
  pub encoding : ℕ → List ℕ
  pub byte_matrix : ℕ → List ℕ
  pub column_matrix : ℕ → List ℕ
  pub input_matrix : List ℕ
  pub output_matrix : List ℕ

-- "160 byte matrices, 8 by 8, number 16(r−1)+j for round r = 1..10 and state byte j": matrix (r, j).
abbrev pub byte_matrix_at : Codings → ℕ → ℕ → List ℕ
byte_matrix_at C r j = C.byte_matrix (16 * (r - 1) + j)

-- "36 column matrices, 32 by 32, number 4(r−1)+c for r = 1..9 and column c": matrix (r, c).
abbrev pub column_matrix_at : Codings → ℕ → ℕ → List ℕ
column_matrix_at C r c = C.column_matrix (4 * (r - 1) + c)

-- A matrix of n rows of n bits that has an inverse.
pub record GoodMatrix (n : ℕ) (m : List ℕ) : Type 0 where
  pub fits : RowsFit n (at m)
  pub has : Invertible n m

-- Every encoding is a permutation and every matrix has an inverse, whatever the number.
pub record Sound (C : Codings) : Type 0 where
  pub encodings : (n : ℕ) → Permutation (C.encoding n)
  pub bytes : (n : ℕ) → GoodMatrix 8 (C.byte_matrix n)
  pub columns : (n : ℕ) → GoodMatrix 32 (C.column_matrix n)
  pub input : GoodMatrix 128 C.input_matrix
  pub output : GoodMatrix 128 C.output_matrix
