-- What the steps of an elimination in code ask, and the rows of its work area: a list of rows of any kind, of which functions give the
-- numbers, that of the row of the matrix which is reduced and that of the row of the future inverse. Definitions only, which the functions'
-- contracts cite.
use Rattle.std.specs.Prelude.{Bool, true, false, List, ◌≡◌, ℕ, ◌*◌, ◌^◌, ◌≤◌, ◌<◌, length, map}
use Rattle.inversion.specs.Elimination.{add_row, Inversion, inverse, singular}
use Rattle.bits.specs.Lists.{at, tabulate}
use Rattle.matrices.specs.Rows.{row_at}

-- The number f of row i; 0 behind the last row.
unfoldable pub row_in : {R : Type 0} → (R → ℕ) → List R → ℕ → ℕ
row_in f m i = at (map f m) i

-- What the steps of column k ask, here and in invertible: n rows, of at most `most` digits, which m has, and k among their numbers.
pub record Column {R : Type 0} (most n k : ℕ) (m : List R) : Type 0 where
  pub within : n ≤ most
  pub room : n ≤ length m
  pub column : k < n

-- What the start of an elimination asks: n rows of words, of at most `most` digits, and room for them in the work area.
pub record Start {R : Type 0} (most n : ℕ) (a : List ℕ) (work : List R) : Type 0 where
  pub within : n ≤ most
  pub rows : 2 * n ≤ length a
  pub room : n ≤ length work
  pub fit : (i : ℕ) → i < n → row_at a i < 2 ^ most

-- A step of the first n rows of m, which become m₁: row s is added, on both sides, to every row i whose coefficient c i is 1. Here l is the
-- number of a row, and r that of the row of the future inverse.
pub record Stepped {R : Type 0} (l r : R → ℕ) (n : ℕ) (c : ℕ → ℕ) (s : ℕ) (m m₁ : List R) : Type 0 where
  pub left : tabulate n (row_in l m₁) ≡ tabulate n (add_row c s (row_in l m))
  pub right : tabulate n (row_in r m₁) ≡ tabulate n (add_row c s (row_in r m))

-- The end of an elimination that answers r and leaves b on the right.
abbrev pub ended : Bool → List ℕ → Inversion
ended true b = inverse b
ended false b = singular
