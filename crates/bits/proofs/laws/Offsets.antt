-- Laws, not definitions: lists of given sizes one after the other; each is the part of the whole at its offset.
-- Assumes nothing.
use mathlib.Core.List.{List, ◌++◌}
use mathlib.Core.Path.{◌≡◌, sym, ap, ap₂, ◌∙◌, subst}
use Prim.Native.Nat.{ℕ, zero, suc, ◌+◌, ◌*◌, ◌≤◌, ◌<◌}
use native.Mathlib.Decide.{ℕ_discrete}
use native.Mathlib.Nat.{le_refl, not-suc-le-zero, zero-mul, suc-mul}
use native.Mathlib.Omega.{arith}
use lib.ListN.{length, take, drop, length-append, length-drop}
use lib.Seq.{take_all, drop_at, drop-append-le, take-append-le}
use Rattle.bits.specs.Lists.{concat}

-- ---- offsets that add up
module _ (size offset : ℕ → ℕ) (n : ℕ) (more : (k : ℕ) → k < n → offset (suc k) ≡ offset k + size k) where
  pub offset_mono : (i k : ℕ) → k < i → i ≤ n → offset k + size k ≤ offset i
  offset_mono zero k h l = absurd (not-suc-le-zero h)
  offset_mono (suc i) k h l = go (ℕ_discrete k i) (λ a. offset_mono i k a (omega arith))
    where
      go : Dec (k ≡ i) → (k < i → offset k + size k ≤ offset i) → offset k + size k ≤ offset (suc i)
      go (yes e) ih = subst (λ (j : ℕ). offset j + size j ≤ offset (suc i)) (sym e) (omega (arith, more i l))
      go (no e) ih = omega (arith, more i l, ih (omega arith))

-- ---- lists of those sizes
module _ (t : ℕ → List ℕ) (size offset : ℕ → ℕ) (n : ℕ)
    (none : offset 0 ≡ 0)
    (more : (k : ℕ) → k < n → offset (suc k) ≡ offset k + size k)
    (long : (k : ℕ) → k < n → length (t k) ≡ size k) where
  pub concat_length : (i : ℕ) → i ≤ n → length (concat i t) ≡ offset i
  unfolding concat
  concat_length zero h = sym none
  concat_length (suc i) h =
      length-append (concat i t) (t i) ∙ ap₂ (λ (x y : ℕ). x + y) (concat_length i (omega arith)) (long i h) ∙ sym (more i h)

  pub concat_part : (i k : ℕ) → k < i → i ≤ n → take (size k) (drop (offset k) (concat i t)) ≡ t k
  unfolding concat
  concat_part zero k h l = absurd (not-suc-le-zero h)
  concat_part (suc i) k h l = go (ℕ_discrete k i) (λ a. concat_part i k a (omega arith))
    where
      go : Dec (k ≡ i) → (k < i → take (size k) (drop (offset k) (concat i t)) ≡ t k) → take (size k) (drop (offset k) (concat i t ++ t i)) ≡ t k
      go (yes e) ih =
          subst (λ (j : ℕ). take (size j) (drop (offset j) (concat i t ++ t i)) ≡ t j) (sym e)
          (ap (take (size i)) (drop_at (concat i t) (t i) (offset i) (concat_length i (omega arith))) ∙ take_all (size i) (t i) (omega (arith, long i l)))
      go (no e) ih =
          let a : k < i = omega arith in
          let m : offset k + size k ≤ offset i = offset_mono size offset n more i k a (omega arith) in
          let j : length (concat i t) ≡ offset i = concat_length i (omega arith) in
          ap (take (size k)) (drop-append-le (offset k) (concat i t) (t i) (omega arith))
          ∙ take-append-le (size k) (drop (offset k) (concat i t)) (t i) (omega (arith, length-drop (offset k) (concat i t)))
          ∙ ih a

-- ---- n lists of w elements each
pub concat_row : (w : ℕ) (t : ℕ → List ℕ) (n : ℕ) → ((k : ℕ) → k < n → length (t k) ≡ w) → (k : ℕ) → k < n → take w (drop (k * w) (concat n t)) ≡ t k
concat_row w t n long k h = concat_part t (λ i. w) (λ i. i * w) n (zero-mul w) (λ i g. suc-mul i w) long n k h (le_refl n)
