-- A number as n groups of k bits, the first group on top. Bits (k = 1), nibbles (k = 4) and bytes (k = 8) are instances, so
-- their laws are proved once, over k (proofs/laws/Groups.antt). Definitions only.
use Rattle.std.specs.Prelude.{ℕ, zero, suc, ◌+◌, ◌-◌, ◌*◌, ◌/◌, ◌%◌, ◌^◌}
use Rattle.std.specs.Int.Bits.{bit_xor}

-- The number of the n groups f 0, f 1, .., f (n - 1) of k bits each.
unfoldable pub joined : ℕ → ℕ → (ℕ → ℕ) → ℕ
joined k zero f = 0
joined k (suc n) f = joined k n f * 2 ^ k + f n

-- Group i of the number v of n groups of k bits.
unfoldable pub group : ℕ → ℕ → ℕ → ℕ → ℕ
group k n i v = v / 2 ^ (k * (n - suc i)) % 2 ^ k

-- f 0 xor f 1 xor .. xor f (n - 1); 0 for n = 0.
unfoldable pub xor_all : ℕ → (ℕ → ℕ) → ℕ
xor_all zero f = 0
xor_all (suc n) f = bit_xor (xor_all n f) (f n)
