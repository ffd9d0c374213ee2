-- FIPS 197, section 4 (sections are cited as in the edition of 2023): the field GF(2^8), its elements the numbers below 256, bit i of a
-- number being the coefficient of x^i.
-- The sum is xor (4.1), `bit_xor` of lib.Bits. Definitions only.
use Rattle.std.specs.Prelude.{ℕ, zero, suc, ◌*◌, ◌/◌, ◌%◌, cond, ltb, eqb}
use lib.Bits.{bit_xor}

-- 4.2, XTIMES: a times x is a shifted to the left, and where bit 7 of a was 1, xored with 1b hex.
unfoldable pub xtime : ℕ → ℕ
xtime a = cond (ltb a 128) (a * 2) (bit_xor (a * 2 % 256) 0x1b)

-- 4.2: a times the k lowest bits of b. It is a where bit 0 of b is 1, plus x times a by the bits above.
unfoldable pub times : ℕ → ℕ → ℕ → ℕ
times zero a b = 0
times (suc k) a b = bit_xor (cond (eqb (b % 2) 1) a 0) (times k (xtime a) (b / 2))

-- 4.2: the product modulo x^8 + x^4 + x^3 + x + 1.
unfoldable pub mul : ℕ → ℕ → ℕ
mul a b = times 8 a b

-- acc times p^2 p^4 p^8 .., k factors.
unfoldable pub squares : ℕ → ℕ → ℕ → ℕ
squares zero p acc = acc
squares (suc k) p acc = let q : ℕ = mul p p in squares k q (mul q acc)

-- 4.4: the inverse of a, which is a^254 = a^2 a^4 .. a^128; 0 for 0. Theorems.antt says that it is the one inverse.
unfoldable pub inverse : ℕ → ℕ
inverse a = squares 7 a 1
