-- Bit vectors. A vector of n bits is a number below 2 ^ n, and "bit 0 of a vector is the top bit of its first byte" (document
-- 01, "Bits, lists, matrices"). The xor of two vectors is lib.Bits.bitXor. Definitions only.
use Rattle.std.specs.Prelude.{ℕ, zero, suc, ◌-◌, ◌%◌, ◌^◌}
use lib.Bits.{bit_and}
use Rattle.std.specs.Int.Count.{ones}
use Rattle.bits.specs.Groups.{joined, group}

-- Bit i of a vector of n bits.
abbrev pub bit : ℕ → ℕ → ℕ → ℕ
bit n i v = group 1 n i v

-- The vector of n bits whose bit i is f i.
abbrev pub vector : ℕ → (ℕ → ℕ) → ℕ
vector n f = joined 1 n f

-- The vector of n bits whose only one is bit i.
abbrev pub unit : ℕ → ℕ → ℕ
unit n i = 2 ^ (n - suc i)

-- The parity of a masked row: 1 "when row i and the vector share an odd number of ones", else 0.
unfoldable pub dot : ℕ → ℕ → ℕ
dot a b = ones (bit_and a b) % 2

-- 1 where two numbers are equal, else 0.
unfoldable pub delta : ℕ → ℕ → ℕ
delta zero zero = 1
delta zero (suc j) = 0
delta (suc i) zero = 0
delta (suc i) (suc j) = delta i j
