-- The inverse of a bit matrix by Gauss-Jordan elimination, as a definition over the number n of rows. What it answers is said
-- without it in Inverses.antt. Here f and g are functions from a row's number to the row. Definitions only.
use Rattle.std.specs.Prelude.{Bool, true, false, List, [], ℕ, zero, suc, ◌-◌, ◌*◌, Option, Some, None}
use Rattle.std.specs.Int.Bits.{bit_xor}
use Rattle.bits.specs.Lists.{at, tabulate}
use Rattle.bits.specs.Vectors.{bit, delta}
use Rattle.matrices.specs.Matrices.{identity}
use Rattle.matrices.specs.Rows.{stored}

-- Row s is added to every row i whose coefficient c i is 1.
unfoldable pub add_row : (ℕ → ℕ) → ℕ → (ℕ → ℕ) → ℕ → ℕ
add_row c s f i = bit_xor (f i) (c i * f s)

-- In column k, first: row k gets bit k from another row, if it lacks it.
unfoldable pub pivot_by : ℕ → ℕ → (ℕ → ℕ) → ℕ → ℕ
pivot_by n k f i = delta i k * (1 - bit n k (f k))

-- Then row k clears bit k in every other row that has it.
unfoldable pub clear_by : ℕ → ℕ → (ℕ → ℕ) → ℕ → ℕ
clear_by n k f i = (1 - delta i k) * bit n k (f i)

-- Both, of column k with the pivot in row p: f is what is left of the matrix, g what the same additions made of the identity.
abbrev pub pivoted : ℕ → ℕ → ℕ → (ℕ → ℕ) → ℕ → ℕ
pivoted n k p f = add_row (pivot_by n k f) p f

abbrev pub left_step : ℕ → ℕ → ℕ → (ℕ → ℕ) → ℕ → ℕ
left_step n k p f = add_row (clear_by n k (pivoted n k p f)) k (pivoted n k p f)

abbrev pub right_step : ℕ → ℕ → ℕ → (ℕ → ℕ) → (ℕ → ℕ) → ℕ → ℕ
right_step n k p f g = add_row (clear_by n k (pivoted n k p f)) k (add_row (pivot_by n k f) p g)

-- The first row, of the d rows from i on, that has bit k; i + d where none has.
abbrev pub choose : ℕ → ℕ → ℕ → ℕ
choose zero a b = b
choose (suc x) a b = a

unfoldable pub pivot_from : ℕ → ℕ → (ℕ → ℕ) → ℕ → ℕ → ℕ
pivot_from n k f zero i = i
pivot_from n k f (suc d) i = choose (bit n k (f i)) i (pivot_from n k f d (suc i))

-- What a search tells that came to row p, where d of the rows stand from there on: row p, or none where it came behind the last.
abbrev pub told : ℕ → ℕ → Option ℕ
told zero p = None
told (suc d) p = Some p

-- The pivot of column k of n rows: the first row from k on that has bit k, or none.
unfoldable pub pivot_in : ℕ → ℕ → (ℕ → ℕ) → Option ℕ
pivot_in n k f = told (n - pivot_from n k f (n - k) k) (pivot_from n k f (n - k) k)

-- The inverse, or that there is none.
pub data Inversion : Type 0 where
  inverse : List ℕ → Inversion
  singular : Inversion

abbrev pub unless_zero : ℕ → Inversion → Inversion
unless_zero zero r = singular
unless_zero (suc x) r = r

-- The d columns from k on.
unfoldable pub columns : ℕ → ℕ → ℕ → List ℕ → List ℕ → Inversion
columns n zero k a b = inverse b
columns n (suc d) k a b =
    let p = pivot_from n k (at a) (n - k) k in
    let r = columns n d (suc k) (tabulate n (left_step n k p (at a))) (tabulate n (right_step n k p (at a) (at b))) in
    unless_zero (n - p) r

unfoldable pub invert : ℕ → List ℕ → Inversion
unfolding columns
invert n m = columns n n 0 m (identity n)

-- The rows of the inverse; none where there is no inverse.
abbrev pub rows_in : Inversion → List ℕ
rows_in (inverse b) = b
rows_in singular = []

unfoldable pub inverse_of : ℕ → List ℕ → List ℕ
inverse_of n m = rows_in (invert n m)

-- What `invert` of the code answers, and the words that it leaves where it is lent m: the inverse in the first n rows, or m as it was.
abbrev pub has_inverse : Inversion → Bool
has_inverse (inverse b) = true
has_inverse singular = false

abbrev pub with_inverse : ℕ → Inversion → List ℕ → List ℕ
with_inverse n (inverse b) m = stored n (at b) m
with_inverse n singular m = m
