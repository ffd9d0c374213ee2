-- How the code finds the entry at a position, row by row, for matrices of 4 rows. The kernel of some rows is the set of the vectors that each of them takes to 0; a
-- set of vectors of 4 bits is a number of 16 bits, whose bit w from the top tells of the vector w. Definitions only, which the private functions' contracts cite.
use Rattle.std.specs.Prelude.{cond, ◌≡◌, ℕ, zero, suc, ◌+◌, ◌-◌, ◌*◌, ◌^◌, ◌<◌, eqb}
use Rattle.std.specs.Int.Bits.{bit_and}
use Rattle.bits.specs.Counts.{sum_below}
use Rattle.bits.specs.Vectors.{vector, dot}
use Rattle.catalogue.specs.Catalogue.{side}

-- How many vectors of 4 bits there are; a row is one of them.
abbrev pub vectors : ℕ
vectors = 2 ^ side

-- The kernel of a row; and of one row more, where the rows before it have the kernel k.
unfoldable pub kernel_of : ℕ → ℕ
kernel_of row = vector vectors (λ w. 1 - dot row w)

unfoldable pub kernel_with : ℕ → ℕ → ℕ
kernel_with k row = bit_and k (kernel_of row)

-- How many rows lie outside the span of the rows before, for the row behind which `left` rows are still to choose: 8, 12, 14 and 15 for 0, 1, 2 and 3.
abbrev pub choices : ℕ → ℕ
choices left = vectors - 2 ^ (side - suc left)

-- How many matrices with an inverse begin with the same independent rows, where `left` rows are still to choose.
unfoldable pub ways : ℕ → ℕ
ways zero = 1
ways (suc left) = choices left * ways left

-- How many of them go on with a row, behind rows with the kernel k: none where the row narrows nothing, for then it is in their span; else `each`.
unfoldable pub completions : ℕ → ℕ → ℕ → ℕ
completions k each row = cond (eqb (kernel_with k row) k) 0 each

-- The next row of the matrix at a position, the kernel with it, and the position among the matrices that go on with it.
pub record NextRow (k each position row next rest : ℕ) : Type 0 where
  pub small : row < vectors
  pub kernel : next ≡ kernel_with k row
  pub inside : rest < completions k each row
  pub passed : position ≡ sum_below row (completions k each) + rest
