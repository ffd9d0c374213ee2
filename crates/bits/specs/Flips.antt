-- One bit of a list of bytes turned over. Bits are "counted from the top bit of byte 0" (document 02, Ticket 7). Definitions, and what they come to, which is
-- proved in proofs/laws/Flips.antt.
use Rattle.std.specs.Prelude.{List, [], ◌∷◌, ◌≡◌, ℕ, ◌-◌, ◌*◌, ◌/◌, ◌%◌, ◌^◌, ◌≤◌, ◌<◌, length, set}
use Rattle.std.specs.Int.Bits.{bit_xor}
use Rattle.bits.specs.Bytes.{Bytes}
use Rattle.bits.specs.Lists.{at}
use Rattle.bits.specs.Vectors.{bit, unit}

-- Bit i of a list of bytes.
abbrev pub bit_at : List ℕ → ℕ → ℕ
bit_at l i = bit 8 (i % 8) (at l (i / 8))

-- The list with bit i turned over. Past the end there is no bit, and the list stays as it was.
unfoldable pub flipped : List ℕ → ℕ → List ℕ
flipped l i = set l (i / 8) (bit_xor (at l (i / 8)) (unit 8 (i % 8)))

-- That bit is the other one, and every other bit is as it was; bit i of the list is bit i % 8 of byte i / 8, from the top.
pub record FlipsOne (l : List ℕ) (i : ℕ) : Type 0 where
  pub from_top : bit_at l i ≡ at l (i / 8) / 2 ^ (7 - i % 8) % 2
  pub long : length (flipped l i) ≡ length l
  pub bytes : Bytes l → Bytes (flipped l i)
  pub there : i < 8 * length l → bit_at (flipped l i) i ≡ 1 - bit_at l i
  pub others : (j : ℕ) → (j ≡ i → ⊥) → bit_at (flipped l i) j ≡ bit_at l j
  pub beyond : 8 * length l ≤ i → flipped l i ≡ l

abbrev pub FlipsOneBit : Type 0
FlipsOneBit = (l : List ℕ) (i : ℕ) → FlipsOne l i

-- "The top bit of byte 0": with it turned over, a byte of value 0 becomes 128.
abbrev pub TopBitFirst : Type 0
TopBitFirst = flipped (0 ∷ []) 0 ≡ 128 ∷ []
