-- Laws, not definitions: of the loop that makes the product of a and b, bit after bit of b.
-- Assumes nothing.
use mathlib.Core.Bool.{cond}
use mathlib.Core.Path.{◌≡◌, refl, sym, ap, ap₂, ◌∙◌}
use Prim.Native.Nat.{ℕ, suc, ◌+◌, ◌-◌, ◌/◌, ◌%◌, ◌≤◌, ◌<◌}
use native.Mathlib.Omega.{arith}
use lib.Bits.{bit_xor, xor_zero_r}
use lib.Dec.{eqb}
use Rattle.bits.proofs.laws.Xor.{xor_assoc}
use Rattle.field.specs.Field.{xtime, times, mul}

-- The loop's invariant: with k of its bits taken, the sum and x times those that are left in y are the product.
pub record Summed (a b x y sum k : ℕ) : Type 0 where
  pub whole : bit_xor sum (times (8 - k) x y) ≡ mul a b

pub summed_none : {a b : ℕ} → Summed a b a b 0 0
unfolding mul
summed_none = record { whole = refl }

module _ {a b x y sum k : ℕ} (g : Summed a b x y sum k) where
  -- A turn adds the share s of the lowest bit.
  pub summed_more : {x' s : ℕ} → k < 8 → s ≡ cond (eqb (y % 2) 1) x 0 → x' ≡ xtime x → Summed a b x' (y / 2) (bit_xor sum s) (k + 1)
  unfolding times
  summed_more {x'} {s} h share next =
      let n = 8 - (k + 1) in
      let more : suc n ≡ 8 - k = omega arith in
      record {
        whole =
            xor_assoc sum s (times n x' (y / 2)) ∙ ap (bit_xor sum) (ap₂ (λ (p q : ℕ). bit_xor p (times n q (y / 2))) share next)
            ∙ ap (λ (m : ℕ). bit_xor sum (times m x y)) more
            ∙ g.whole;
      }

  pub summed_all : 8 ≤ k → sum ≡ mul a b
  unfolding times
  summed_all h =
      let none : 0 ≡ 8 - k = omega arith in
      sym (xor_zero_r sum) ∙ ap (λ (n : ℕ). bit_xor sum (times n x y)) none ∙ g.whole
