-- What the inverse is, for a reader: the statements. They are proved in proofs/laws/Inverses.antt.
use Rattle.std.specs.Prelude.{List, ◌≡◌, ℕ, length}
use Rattle.bits.specs.Lists.{at}
use Rattle.matrices.specs.Matrices.{product, RowsFit, Undoes, Invertible}
use Rattle.inversion.specs.Elimination.{inverse, singular, invert}

-- Where the elimination answers b, the matrix b undoes m and m undoes b, on every vector; and b is n rows of n bits.
pub record UndoesBothWays (n : ℕ) (m b : List ℕ) : Type 0 where
  pub left : Undoes n (product n b) (product n m)
  pub right : Undoes n (product n m) (product n b)
  pub long : length b ≡ n
  pub fits : RowsFit n (at b)

abbrev pub Answered : Type 0
Answered = (n : ℕ) (m b : List ℕ) → RowsFit n (at m) → invert n m ≡ inverse b → UndoesBothWays n m b

-- Where it answers none, no function at all undoes m.
abbrev pub Refused : Type 0
Refused = (n : ℕ) (m : List ℕ) → RowsFit n (at m) → invert n m ≡ singular → Invertible n m → ⊥

-- So it answers exactly where m has an inverse.
abbrev pub Exact : Type 0
Exact = (n : ℕ) (m : List ℕ) → RowsFit n (at m) → Invertible n m → (b : List ℕ) × (invert n m ≡ inverse b)

-- The inverse is unique: a matrix that undoes m on one side, from the left or from the right, is the one answered.
abbrev pub Unique : Type 0
Unique = (n : ℕ) (m b c : List ℕ) → RowsFit n (at m) → RowsFit n (at c) → length c ≡ n → invert n m ≡ inverse b
    → (Undoes n (product n c) (product n m) → c ≡ b) × (Undoes n (product n m) (product n c) → c ≡ b)
