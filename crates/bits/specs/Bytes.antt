-- Byte lists, and numbers as bytes, most significant first. Definitions only.
use Rattle.std.specs.Prelude.{cond, List, ◌≡◌, ℕ, ◌+◌, ◌<◌, eqb, length}
use Rattle.bits.specs.Lists.{at, tabulate}
use Rattle.bits.specs.Groups.{joined, group}

-- Every element is a byte.
abbrev pub Bytes : List ℕ → Type 0
Bytes l = (i : ℕ) → at l i < 256

-- A block: 16 bytes.
pub record Block (s : List ℕ) : Type 0 where
  pub long : length s ≡ 16
  pub bytes : Bytes s

-- The number of n bytes.
abbrev pub number : ℕ → (ℕ → ℕ) → ℕ
number n f = joined 8 n f

-- Byte i of a number of n bytes.
abbrev pub byte : ℕ → ℕ → ℕ → ℕ
byte n i v = group 8 n i v

-- The number that the first n bytes of a list write, that of the four bytes from place a on, and the n bytes of a number.
abbrev pub number_of : ℕ → List ℕ → ℕ
number_of n l = number n (at l)

unfoldable pub number_at : List ℕ → ℕ → ℕ
number_at l a = number 4 (λ j. at l (a + j))

unfoldable pub bytes_of : ℕ → ℕ → List ℕ
bytes_of n v = tabulate n (λ i. byte n i v)

-- Byte x at place i of n bytes that are else 0.
unfoldable pub placed : ℕ → ℕ → ℕ → ℕ
placed n i x = number n (λ j. cond (eqb j i) x 0)
