-- FIPS 197, sections 5.1.1 and 5.3.2: the S-box and the inverse S-box, by their rules. Definitions only.
use Rattle.std.specs.Prelude.{ℕ, zero, suc, ◌+◌, ◌*◌, ◌/◌, ◌%◌, ◌^◌, cond, eqb}
use Rattle.std.specs.Int.Bits.{bit_xor}
use Rattle.field.specs.Field.{inverse}

-- The byte b turned to the left by k places: bit i goes to bit i + k modulo 8.
unfoldable pub turn : ℕ → ℕ → ℕ
turn b k = b * 2 ^ k % 256 + b * 2 ^ k / 256

-- 5.1.1: bit i is b_i + b_(i+4) + b_(i+5) + b_(i+6) + b_(i+7) + c_i, places modulo 8, with c = 63 hex. Bit i + 4 is bit i of b
-- turned by 4, bit i + 5 that of b turned by 3, and so on.
unfoldable pub affine : ℕ → ℕ
affine b = bit_xor (bit_xor (bit_xor (bit_xor (bit_xor b (turn b 4)) (turn b 3)) (turn b 2)) (turn b 1)) 0x63

-- 5.1.1: S(x) is the affine map of the inverse of x.
unfoldable pub sbox_of : ℕ → ℕ
sbox_of x = affine (inverse x)

-- The first of the n numbers from i on at which f is y; i + n where there is none.
unfoldable pub seek : ℕ → ℕ → (ℕ → ℕ) → ℕ → ℕ
seek zero i f y = i
seek (suc n) i f y = cond (eqb (f i) y) i (seek n (suc i) f y)

-- 5.3.2: the inverse S-box is the S-box with inputs and outputs exchanged: the byte at which S is y.
unfoldable pub inv_sbox_of : ℕ → ℕ
inv_sbox_of y = seek 256 0 sbox_of y
