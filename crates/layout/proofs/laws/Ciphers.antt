-- Laws, not definitions: what is chosen for a cipher, by the code's test of its number; what both ciphers have the chosen one has; and both row
-- shifts read one of the 16 standing bytes.
-- Assumes nothing.
use mathlib.Core.Path.{◌≡◌, refl, sym, ap, ◌∙◌}
use Prim.Native.Nat.{ℕ, zero, suc, ◌<◌}
use native.Mathlib.Omega.{arith}
use Rattle.layout.specs.Ciphers.{for_cipher, kept, inv_shifted, reads_of}
use Rattle.layout.specs.Stages.{shifted}
use Rattle.layout.proofs.laws.Place.{shifted_lt}

-- ---- by the test: x is what g makes of the one that is chosen
module _ {A B : Type 0} (g : A → B) (c : ℕ) (f i : A) {x : B} where
  pub by_forward : c ≡ 0 → x ≡ g f → x ≡ g (for_cipher c f i)
  by_forward e q = q ∙ ap (λ (n : ℕ). g (for_cipher n f i)) (sym e)

  pub by_inverse : (c ≡ 0 → ⊥) → x ≡ g i → x ≡ g (for_cipher c f i)
  by_inverse n q = go c n
    where
      go : (c : ℕ) → (c ≡ 0 → ⊥) → x ≡ g (for_cipher c f i)
      go zero n = absurd (n refl)
      go (suc c) n = q

-- ---- what both have
pub for_both : {A : Type 0} (Q : A → Type 0) (c : ℕ) (f i : A) → Q f → Q i → Q (for_cipher c f i)
for_both Q zero f i p q = p
for_both Q (suc c) f i p q = q

-- ---- the number that is kept names the same cipher
pub kept_names : {A : Type 0} (c : ℕ) (f i : A) → for_cipher (kept c) f i ≡ for_cipher c f i
kept_names zero f i = refl
kept_names (suc c) f i = refl

pub kept_kept : (c : ℕ) → kept (kept c) ≡ kept c
kept_kept c = kept_names c 0 1

-- ---- the row shifts
pub inv_shifted_lt : (p : ℕ) → p < 16 → inv_shifted p < 16
unfolding inv_shifted
inv_shifted_lt p h = omega arith

pub reads_lt : (c p : ℕ) → p < 16 → reads_of c p < 16
reads_lt c = for_both (λ (reads : ℕ → ℕ). (p : ℕ) → p < 16 → reads p < 16) c shifted inv_shifted shifted_lt inv_shifted_lt
