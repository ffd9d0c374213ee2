-- What the product of a matrix and a vector is good for, for a reader: the statements. They are proved in proofs/laws/Products.antt,
-- each once over the number n of rows; n = 8, 32 and 128 are instances.
use Rattle.std.specs.Prelude.{List, ◌≡◌, ℕ, ◌^◌, ◌<◌}
use Rattle.std.specs.Int.Bits.{bit_xor}
use Rattle.bits.specs.Vectors.{bit, dot}
use Rattle.bits.specs.Lists.{at}
use Rattle.matrices.specs.Matrices.{product, identity}

-- Bit i of a product is the parity of row i and the vector, for each of the n rows; and a product is a vector of n bits.
abbrev pub Bits : Type 0
Bits = (n : ℕ) (m : List ℕ) (v i : ℕ) → i < n → bit n i (product n m v) ≡ dot (at m i) v

abbrev pub Bounded : Type 0
Bounded = (n : ℕ) (m : List ℕ) (v : ℕ) → product n m v < 2 ^ n

-- The product is linear.
abbrev pub Linear : Type 0
Linear = (n : ℕ) (m : List ℕ) (x y : ℕ) → product n m (bit_xor x y) ≡ bit_xor (product n m x) (product n m y)

-- The identity's product is the vector.
abbrev pub Neutral : Type 0
Neutral = (n v : ℕ) → v < 2 ^ n → product n (identity n) v ≡ v
