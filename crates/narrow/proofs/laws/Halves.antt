-- Laws, not definitions: a word of two halves. Xor and a product by 0 or 1 act on both halves apart.
-- Assumes nothing.
use mathlib.Core.List.{List}
use mathlib.Core.Path.{◌≡◌, sym, ap, ◌∙◌, subst}
use Prim.Native.Nat.{ℕ, ◌+◌, ◌*◌, ◌/◌, ◌%◌, ◌^◌, ◌≤◌, ◌<◌}
use native.Mathlib.Nat.{mod-eq_of_lt, lt_of_lt_of_le}
use native.Mathlib.Omega.{arith}
use lib.Arith.{digits_lt}
use lib.Bits.{bit_xor, xor_shr, xor_mod}
use lib.ListN.{length}
use lib.Pow.{high, pow-lt, pow_mono, shr-shr}
use Rattle.bits.specs.Bytes.{Bytes}
use Rattle.bits.specs.Lists.{at}
use Rattle.bits.specs.Words.{wide}
use Rattle.bits.proofs.laws.Words.{shifted, wide_alone, wide_low}
use Rattle.bits.proofs.laws.Xor.{two}
use Rattle.matrices.specs.Matrices.{matrix_of}
use Rattle.matrices.specs.Rows.{row_at, stored}
use Rattle.matrices.proofs.laws.Rows.{row_stored}
use Rattle.matrices.proofs.laws.Stored.{matrix_of_fits}
use Rattle.narrow.specs.Halves.{left, right}

-- ---- the halves of a word
-- A digit of the high half, as the code reads it off the word.
pub digit_left : (x s : ℕ) → x / 2 ^ (32 + s) % 2 ≡ left x / 2 ^ s % 2
digit_left x s = ap (λ (z : ℕ). z % 2) (sym (shr-shr x 32 s))

-- The low half, as the low word of a vector.
pub low_half : (x : ℕ) → wide 0 (x % 2 ^ 32) ≡ right x
low_half x = wide_alone (x % 2 ^ 32)

-- ---- a word as the code makes it, of a vector of 32 bits and of another half, which is digit s alone
pub power_small : (s : ℕ) → s < 32 → 1 * 2 ^ s % 2 ^ 64 < 2 ^ 32
power_small s h = subst (λ (x : ℕ). x < 2 ^ 32) (sym (shifted s (omega arith))) (pow-lt h)

module _ (hi lo r : ℕ) (word : lo < 2 ^ 64) (small : wide hi lo < 2 ^ 32) (half : r < 2 ^ 32) where
  -- The vector is its low word.
  low_word : lo ≡ wide hi lo
  low_word = sym (wide_low hi lo word) ∙ mod-eq_of_lt (lt_of_lt_of_le small (pow_mono {i = 32} {j = 64} (omega arith)))

  pub made_left : left (lo * 2 ^ 32 + r) ≡ wide hi lo
  made_left = high lo 32 half ∙ low_word

  -- It is a word.
  pub made_fits : lo * 2 ^ 32 + r < 2 ^ 64
  made_fits = digits_lt {m = 2 ^ 32} {c = 2 ^ 32} (subst (λ (x : ℕ). x < 2 ^ 32) (sym low_word) small) half

-- ---- y, which is c times a word z, added to the word x
module _ (x c z y : ℕ) (h : c < 2) (e : y ≡ c * z) where
  pub left_added : left (bit_xor x y) ≡ bit_xor (left x) (c * left z)
  left_added =
      ap (λ (v : ℕ). left (bit_xor x v)) e ∙ xor_shr x (c * z) 32
      ∙ ap (bit_xor (left x)) (two (λ c. left (c * z) ≡ c * left z) (omega arith) (omega arith) c h)

  pub right_added : right (bit_xor x y) ≡ bit_xor (right x) (c * right z)
  right_added =
      ap (λ (v : ℕ). right (bit_xor x v)) e ∙ xor_mod x (c * z) 32
      ∙ ap (bit_xor (right x)) (two (λ c. right (c * z) ≡ c * right z) (omega arith) (omega arith) c h)

-- ---- the rows m that the bytes p were read into: each is a half
pub read_fits : (w : ℕ) (p m₀ m : List ℕ) → w ≤ 4 → Bytes p → 16 * w ≤ length m₀ → m ≡ stored (8 * w) (at (matrix_of w p)) m₀ → (i : ℕ) → i < 8 * w
    → row_at m i < 2 ^ 32
read_fits w p m₀ m few bytes room e i h =
    let room' : 8 * w ≤ 32 = omega arith in
    subst (λ (x : ℕ). x < 2 ^ 32) (sym (ap (λ (l : List ℕ). row_at l i) e ∙ row_stored (8 * w) (at (matrix_of w p)) m₀ (omega arith) i h))
    (lt_of_lt_of_le (matrix_of_fits w p bytes i h) (pow_mono room'))
