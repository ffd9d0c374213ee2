-- How the code holds matrices: row i of a matrix is words 2 i and 2 i + 1 of a slice of words. Definitions only.
use Rattle.std.specs.Prelude.{List, [], ◌∷◌, ℕ, zero, suc, ◌+◌, ◌*◌, ◌/◌, ◌%◌, ◌^◌, set}
use Rattle.bits.specs.Lists.{at, tabulate, concat}
use Rattle.bits.specs.Words.{wide}

-- Row i of the words m.
unfoldable pub row_at : List ℕ → ℕ → ℕ
row_at m i = wide (at m (2 * i)) (at m (2 * i + 1))

-- The first n rows of the words m, as a matrix.
unfoldable pub rows_of : ℕ → List ℕ → List ℕ
rows_of n m = tabulate n (row_at m)

-- The words m with row i replaced by v.
unfoldable pub set_row : List ℕ → ℕ → ℕ → List ℕ
set_row m i v = set (set m (2 * i) (v / 2 ^ 64)) (2 * i + 1) (v % 2 ^ 64)

-- The words m with rows 0 to n - 1 replaced by f 0, .., f (n - 1).
unfoldable pub stored : ℕ → (ℕ → ℕ) → List ℕ → List ℕ
stored zero f m = m
stored (suc n) f m = set_row (stored n f m) n (f n)

-- The 2 n words of a matrix of n rows: of each row the high 64 bits, then the low ones.
abbrev pub row_words : ℕ → List ℕ
row_words v = v / 2 ^ 64 ∷ v % 2 ^ 64 ∷ []

unfoldable pub words_of : ℕ → List ℕ → List ℕ
words_of n m = concat n (λ i. row_words (at m i))
