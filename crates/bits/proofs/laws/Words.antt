-- Laws, not definitions: two words as one number.
-- Assumes nothing.
use mathlib.Core.Path.{◌≡◌, refl, sym, ap, ap₂, ◌∙◌, subst}
use Prim.Native.Nat.{ℕ, ◌+◌, ◌-◌, ◌*◌, ◌/◌, ◌%◌, ◌^◌, ◌≤◌, ◌<◌}
use native.Mathlib.Nat.{mul_assoc, mul-add, zero-mul, one-mul, mod-eq_of_lt, zero-add, add-zero, add_comm, add-mul-div_right, add-mul-mod_self_right}
use native.Mathlib.Nat.{mul-mod_left, mod-lt, div-eq_of_lt, lt_of_lt_of_le}
use native.Mathlib.Omega.{arith}
use lib.Arith.{digits_lt}
use lib.Bits.{bit_and, bit_xor, and_block, xor_block, and_lt, and_zero_r, and_mask}
use lib.Count.{ones, ones_cat}
use lib.Dec.{lit<}
use lib.Pow.{high, low, mod-pow-add, split, shr-shr, shr_lt, pow_pos, pow-lt, pow_mono, pow-add}
use Rattle.bits.specs.Vectors.{dot}
use Rattle.bits.specs.Words.{wide}
use Rattle.bits.proofs.laws.Xor.{two, ones_xor, sum_both}

-- ---- two words
pub dot_wide : (hi lo vhi vlo : ℕ) → lo < 2 ^ 64 → vlo < 2 ^ 64
    → ones (bit_xor (bit_and hi vhi) (bit_and lo vlo)) % 2 ≡ dot (wide hi lo) (wide vhi vlo)
unfolding wide dot
dot_wide hi lo vhi vlo h k =
    ones_xor (bit_and hi vhi) (bit_and lo vlo)
    ∙ sum_both (ones (bit_and hi vhi)) (ones (bit_and lo vlo))
    ∙ ap (λ (x : ℕ). x % 2)
    (sym (ones_cat 64 (bit_and hi vhi) (bit_and lo vlo) (and_lt 64 lo vlo h k)) ∙ ap ones (sym (and_block 64 hi vhi lo vlo h k)))

-- A low word alone.
pub wide_alone : (lo : ℕ) → wide 0 lo ≡ lo
unfolding wide
wide_alone lo = omega arith

-- m bits at place s that lie in the low word, or in the high one.
pub bits_low : (m hi lo s : ℕ) → s + m ≤ 64 → lo / 2 ^ s % 2 ^ m ≡ wide hi lo / 2 ^ s % 2 ^ m
unfolding wide
bits_low m hi lo s h =
    let r = 64 - (s + m) in
    let e : 64 ≡ r + m + s = omega arith in
    let p : hi * 2 ^ 64 ≡ hi * 2 ^ r * 2 ^ m * 2 ^ s =
    ap (λ (x : ℕ). hi * 2 ^ x) e
    ∙ ap (λ (x : ℕ). hi * x) (pow-add 2 (r + m) s ∙ ap (λ (x : ℕ). x * 2 ^ s) (pow-add 2 r m))
    ∙ sym (ap (λ (x : ℕ). x * 2 ^ s) (mul_assoc hi (2 ^ r) (2 ^ m)) ∙ mul_assoc hi (2 ^ r * 2 ^ m) (2 ^ s)) in
    let q = hi * 2 ^ r in
    sym (ap (λ (x : ℕ). (x + lo) / 2 ^ s % 2 ^ m) p
    ∙ ap (λ (x : ℕ). x / 2 ^ s % 2 ^ m) (add_comm (q * 2 ^ m * 2 ^ s) lo)
    ∙ ap (λ (x : ℕ). x % 2 ^ m) (add-mul-div_right lo (q * 2 ^ m) (pow_pos s))
    ∙ add-mul-mod_self_right (lo / 2 ^ s) q (2 ^ m))

pub bits_high : (m hi lo s : ℕ) → 64 ≤ s → lo < 2 ^ 64 → hi / 2 ^ (s - 64) % 2 ^ m ≡ wide hi lo / 2 ^ s % 2 ^ m
unfolding wide
bits_high m hi lo s h k =
    let e : 64 + (s - 64) ≡ s = omega arith in
    sym (ap (λ (x : ℕ). x % 2 ^ m)
    (ap (λ (x : ℕ). (hi * 2 ^ 64 + lo) / 2 ^ x) (sym e)
    ∙ sym (shr-shr (hi * 2 ^ 64 + lo) 64 (s - 64))
    ∙ ap (λ (x : ℕ). x / 2 ^ (s - 64)) (high hi 64 k)))

-- Above both words there is none.
pub bits_above : (m hi lo s : ℕ) → 128 ≤ s → hi < 2 ^ 64 → lo < 2 ^ 64 → 0 ≡ wide hi lo / 2 ^ s % 2 ^ m
unfolding wide
bits_above m hi lo s h k l =
    let small : hi * 2 ^ 64 + lo < 2 ^ s = lt_of_lt_of_le (digits_lt {m = 2 ^ 64} {c = 2 ^ 64} k l) (pow_mono h) in
    sym (ap (λ (x : ℕ). x % 2 ^ m) (div-eq_of_lt small) ∙ mod-eq_of_lt (pow_pos m))

-- c times a word, for c 0 or 1.
scaled_bit : (c x : ℕ) → c < 2 → x < 2 ^ 64 → c * x < 2 ^ 64
scaled_bit c x h k = two (λ c. c * x < 2 ^ 64) (omega arith) (omega arith) c h

masked_bit : (c x : ℕ) → c < 2 → x < 2 ^ 64 → bit_and x (c * 18446744073709551615) ≡ c * x
masked_bit c x h k =
    two (λ c. bit_and x (c * 18446744073709551615) ≡ c * x) (and_zero_r x ∙ sym (zero-mul x))
    (and_mask x 64 ∙ mod-eq_of_lt k ∙ sym (one-mul x)) c h

xor_wide : (hi lo c vhi vlo : ℕ) → lo < 2 ^ 64 → c < 2 → vlo < 2 ^ 64
    → wide (bit_xor hi (c * vhi)) (bit_xor lo (c * vlo)) ≡ bit_xor (wide hi lo) (c * wide vhi vlo)
unfolding wide
xor_wide hi lo c vhi vlo h k g =
    sym (xor_block 64 hi (c * vhi) lo (c * vlo) h (scaled_bit c vlo k g))
    ∙ ap (bit_xor (hi * 2 ^ 64 + lo)) (ap (λ (x : ℕ). x + c * vlo) (mul_assoc c vhi (2 ^ 64)) ∙ sym (mul-add c (vhi * 2 ^ 64) vlo))

-- A word times the lowest bit of c.
pub scaled : (c x : ℕ) → x < 2 ^ 64 → c % 2 * x < 2 ^ 64
scaled c x k = scaled_bit (c % 2) x (omega arith) k

pub masked_is : (c x : ℕ) → x < 2 ^ 64 → bit_and x (c % 2 * 18446744073709551615) ≡ c % 2 * x
masked_is c x k = masked_bit (c % 2) x (omega arith) k

-- Word by word, where x and y are the lowest bit of c times the words of the second number.
pub added_words : (hi lo c vhi vlo x y : ℕ) → lo < 2 ^ 64 → vlo < 2 ^ 64 → x ≡ c % 2 * vhi → y ≡ c % 2 * vlo
    → wide (bit_xor hi x) (bit_xor lo y) ≡ bit_xor (wide hi lo) (c % 2 * wide vhi vlo)
added_words hi lo c vhi vlo x y h g e f =
    ap₂ (λ (x y : ℕ). wide (bit_xor hi x) (bit_xor lo y)) e f ∙ xor_wide hi lo (c % 2) vhi vlo h (omega arith) g

-- The high word of a number of fewer bits.
pub high_lt : (j hi lo : ℕ) → wide hi lo < 2 ^ (j + 64) → lo < 2 ^ 64 → hi < 2 ^ j
unfolding wide
high_lt j hi lo h k = subst (λ (x : ℕ). x < 2 ^ j) (high hi 64 k) (shr_lt j 64 h)

-- One bit more at the bottom: the low word's top digit goes over into the high word, whose own top digit falls out, so that it stays a word.
pub pushed_high : (hi lo : ℕ) → lo < 2 ^ 64 → hi % 9223372036854775808 * 2 + lo / 9223372036854775808 < 2 ^ 64
pushed_high hi lo k = digits_lt {m = 9223372036854775808} {c = 2} (mod-lt hi (lit< tt)) (shr_lt 1 63 k)

pub pushed_words : (hi lo b : ℕ) → lo < 2 ^ 64
    → wide (hi % 9223372036854775808 * 2 + lo / 9223372036854775808) (lo % 9223372036854775808 * 2 + b % 2) ≡ (wide hi lo * 2 + b % 2) % 2 ^ 128
unfolding wide
pushed_words hi lo b k =
    let below : (hi * 2 ^ 64 + lo) % 2 ^ 127 ≡ hi % 2 ^ 63 * 2 ^ 64 + lo =
    mod-pow-add (hi * 2 ^ 64 + lo) 63 64 ∙ ap₂ (λ (x y : ℕ). x % 2 ^ 63 * 2 ^ 64 + y) (high hi 64 k) (low hi 64 k) in
    let words : (hi % 2 ^ 63 * 2 ^ 64 + lo) * 2 + b % 2
    ≡ (hi % 9223372036854775808 * 2 + lo / 9223372036854775808) * 2 ^ 64 + (lo % 9223372036854775808 * 2 + b % 2) = omega arith in
    sym (mod-pow-add ((hi * 2 ^ 64 + lo) * 2 + b % 2) 127 1
    ∙ ap₂ (λ (x y : ℕ). x % 2 ^ 127 * 2 + y) (high (hi * 2 ^ 64 + lo) 1 (omega arith)) (low (hi * 2 ^ 64 + lo) 1 (omega arith))
    ∙ ap (λ (x : ℕ). x * 2 + b % 2) below
    ∙ words)

-- A power of 2.
pub shifted : (s : ℕ) → s < 64 → 1 * 2 ^ s % 2 ^ 64 ≡ 2 ^ s
shifted s h = ap (λ (x : ℕ). x % 2 ^ 64) (one-mul (2 ^ s)) ∙ mod-eq_of_lt (pow-lt h)

-- A vector of 128 bits has digit s.
pub power_fits : (s : ℕ) → s < 128 → 2 ^ s % 2 ^ 128 ≡ 2 ^ s
power_fits s h = mod-eq_of_lt (pow-lt h)

pub power_low : (s : ℕ) → s < 64 → wide 0 (1 * 2 ^ s % 2 ^ 64) ≡ 2 ^ s % 2 ^ 128
unfolding wide
power_low s h = zero-add (1 * 2 ^ s % 2 ^ 64) ∙ shifted s h ∙ sym (power_fits s (omega arith))

pub power_high : (s : ℕ) → 64 ≤ s → s < 128 → wide (1 * 2 ^ (s - 64) % 2 ^ 64) 0 ≡ 2 ^ s % 2 ^ 128
unfolding wide
power_high s h k =
    add-zero (1 * 2 ^ (s - 64) % 2 ^ 64 * 2 ^ 64)
    ∙ ap (λ (x : ℕ). x * 2 ^ 64) (shifted (s - 64) (omega arith))
    ∙ sym (pow-add 2 (s - 64) 64)
    ∙ ap (λ (x : ℕ). 2 ^ x) (omega arith)
    ∙ sym (power_fits s k)

-- Digit s is above the vector.
pub power_above : (s : ℕ) → 128 ≤ s → wide 0 0 ≡ 2 ^ s % 2 ^ 128
unfolding wide
power_above s h =
    let e : (s - 128) + 128 ≡ s = omega arith in
    sym (ap (λ (x : ℕ). x % 2 ^ 128) (ap (λ (x : ℕ). 2 ^ x) (sym e) ∙ pow-add 2 (s - 128) 128) ∙ mul-mod_left (2 ^ (s - 128)) (2 ^ 128))

-- Two words 0.
pub wide_zero : wide 0 0 ≡ 0
unfolding wide
wide_zero = refl

-- The two words of a number.
pub wide_split : (v : ℕ) → wide (v / 2 ^ 64) (v % 2 ^ 64) ≡ v
unfolding wide
wide_split v = split v 64

pub wide_high : (hi lo : ℕ) → lo < 2 ^ 64 → wide hi lo / 2 ^ 64 ≡ hi
unfolding wide
wide_high hi lo h = high hi 64 h

pub wide_low : (hi lo : ℕ) → lo < 2 ^ 64 → wide hi lo % 2 ^ 64 ≡ lo
unfolding wide
wide_low hi lo h = low hi 64 h
