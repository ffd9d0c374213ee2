-- Bit matrices. A matrix of n rows is the list of its rows, each a vector of n bits: "stored by rows, column 0 as top bit"
-- (document 01, "Bits, lists, matrices"). Definitions only.
use Rattle.std.specs.Prelude.{List, ◌≡◌, ℕ, ◌+◌, ◌*◌, ◌^◌, ◌<◌, length}
use Rattle.bits.specs.Bytes.{number, bytes_of}
use Rattle.bits.specs.Lists.{at, tabulate, concat}
use Rattle.bits.specs.Vectors.{vector, unit, dot}

-- The product of the n rows f 0, f 1, .. and a vector: bit i is the parity of row i and the vector.
unfoldable pub product_by : ℕ → (ℕ → ℕ) → ℕ → ℕ
product_by n f v = vector n (λ i. dot (f i) v)

-- The product of a matrix of n rows and a vector.
abbrev pub product : ℕ → List ℕ → ℕ → ℕ
product n m v = product_by n (at m) v

-- The matrix that changes nothing.
unfoldable pub identity : ℕ → List ℕ
identity n = tabulate n (unit n)

-- The first n rows are vectors of n bits.
abbrev pub RowsFit : ℕ → (ℕ → ℕ) → Type 0
RowsFit n f = (i : ℕ) → i < n → f i < 2 ^ n

-- A matrix of n rows of n bits.
pub record Square (n : ℕ) (m : List ℕ) : Type 0 where
  pub long : length m ≡ n
  pub fits : RowsFit n (at m)

-- The map u undoes the map m on every vector of n bits.
abbrev pub Undoes : ℕ → (ℕ → ℕ) → (ℕ → ℕ) → Type 0
Undoes n u m = (v : ℕ) → v < 2 ^ n → u (m v) ≡ v

-- A matrix has an inverse: some map, whatever it is, undoes its product.
abbrev pub Invertible : ℕ → List ℕ → Type 0
Invertible n m = (u : ℕ → ℕ) × Undoes n u (product n m)

-- The matrix of 8 w rows that bytes write, w bytes to a row; and the bytes that write a matrix.
unfoldable pub matrix_of : ℕ → List ℕ → List ℕ
matrix_of w s = tabulate (8 * w) (λ i. number w (λ j. at s (i * w + j)))

unfoldable pub matrix_bytes : ℕ → List ℕ → List ℕ
matrix_bytes w m = concat (8 * w) (λ i. bytes_of w (at m i))
