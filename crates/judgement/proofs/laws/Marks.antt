-- Laws, not definitions: the marks of images in a word, bit x of 16 for image x, and what the code's test of one says.
-- Assumes nothing.
use mathlib.Core.Logic.{◌≢◌}
use mathlib.Core.Path.{◌≡◌, sym, ap, ◌∙◌}
use Prim.Native.Nat.{ℕ, suc, ◌+◌, ◌-◌, ◌/◌, ◌^◌, ◌<◌, min}
use native.Mathlib.Decide.{ℕ_discrete}
use native.Mathlib.Omega.{arith}
use lib.Bits.{bit_xor, bit_and, and_le_r}
use lib.Pow.{pow-add, shl-shr}
use Rattle.bits.specs.Vectors.{bit, unit}
use Rattle.bits.proofs.laws.Vectors.{bit_lt, bit_and_lem, bit_xor_lem, bit_zero, bit_ext, unit_lt, bit_unit_same, bit_unit_other}

-- ---- the mark of an image, as the code shifts it
pub mark_bit : (x : ℕ) → x < 16 → 2 ^ 15 / 2 ^ x ≡ unit 16 x
mark_bit x h =
    let all : 15 ≡ 16 - suc x + x = omega arith in
    ap (λ (k : ℕ). 2 ^ k / 2 ^ x) all ∙ ap (λ (y : ℕ). y / 2 ^ x) (pow-add 2 (16 - suc x) x) ∙ shl-shr (2 ^ (16 - suc x)) x

module _ (s x : ℕ) (h : x < 16) where
  -- ---- the test of a mark: s has nothing in common with it exactly where it is not set
  pub mark_free : bit_and s (unit 16 x) ≡ 0 → bit 16 x s ≡ 0
  mark_free free =
      omega (arith, bit_and_lem 16 x s (unit 16 x), ap (bit 16 x) free, bit_zero 16 x, bit_unit_same 16 x, bit_lt 16 x s)

  free_mark : bit 16 x s ≡ 0 → bit_and s (unit 16 x) ≡ 0
  free_mark none =
      bit_ext 16 (bit_and s (unit 16 x)) 0 (omega (arith, and_le_r s (unit 16 x), unit_lt 16 x h)) (omega arith)
      (λ i k. bit_and_lem 16 i s (unit 16 x) ∙ by i k ∙ sym (bit_zero 16 i))
    where
      by : (i : ℕ) → i < 16 → min (bit 16 i s) (bit 16 i (unit 16 x)) ≡ 0
      by i k = elim (ℕ_discrete x i) [
        | yes e ↦ omega (arith, ap (λ (z : ℕ). bit 16 z s) e, none)
        | no e ↦ omega (arith, bit_unit_other 16 x i h k e)
      ]

  pub mark_set : bit_and s (unit 16 x) ≢ 0 → bit 16 x s ≡ 1
  mark_set met = elim (ℕ_discrete (bit 16 x s) 0) [
    | yes none ↦ absurd (met (free_mark none))
    | no some ↦ omega (arith, bit_lt 16 x s)
  ]

  -- ---- a mark turned over: one that was not set is set, and another stays
  pub turned_set : bit 16 x s ≡ 0 → bit 16 x (bit_xor s (unit 16 x)) ≡ 1
  turned_set none = bit_xor_lem 16 x s (unit 16 x) ∙ omega (arith, none, bit_unit_same 16 x)

  pub turned_other : (y : ℕ) → y < 16 → x ≢ y → bit 16 y (bit_xor s (unit 16 x)) ≡ bit 16 y s
  turned_other y k other = bit_xor_lem 16 y s (unit 16 x) ∙ omega (arith, bit_unit_other 16 x y h k other, bit_lt 16 y s)
