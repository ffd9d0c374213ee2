-- Nibbles of byte lists. A nibble is a half-byte of document 01: "the high one of a byte is numbered first". Definitions only.
use Rattle.std.specs.Prelude.{cond, List, ℕ, zero, suc, ◌+◌, ◌*◌, ◌/◌, ◌%◌, eqb, set}
use Rattle.bits.specs.Lists.{at, tabulate}

-- The byte with the high nibble a and the low nibble b.
abbrev pub pack : ℕ → ℕ → ℕ
pack a b = a * 16 + b

-- The high (0) or low half of a byte.
abbrev pub half : ℕ → ℕ → ℕ
half zero x = x / 16
half (suc r) x = x % 16

-- Nibble q of a byte list.
unfoldable pub nibble : List ℕ → ℕ → ℕ
nibble l q = half (q % 2) (at l (q / 2))

-- The byte list with nibble q replaced by v.
unfoldable pub set_nibble : List ℕ → ℕ → ℕ → List ℕ
set_nibble l q v = set l (q / 2) (cond (eqb (q % 2) 0) (pack v (at l (q / 2) % 16)) (pack (at l (q / 2) / 16) v))

-- The n bytes whose nibble q is f q.
unfoldable pub packed : ℕ → (ℕ → ℕ) → List ℕ
packed n f = tabulate n (λ i. pack (f (2 * i)) (f (2 * i + 1)))
