-- Laws, not definitions: 10, 12 and 14 are the even numbers from 10 to 14.
-- Assumes nothing.
use mathlib.Core.Bool.{true, false}
use mathlib.Core.Path.{◌≡◌, refl, sym, ◌∙◌}
use Prim.Native.Nat.{ℕ}
use native.Mathlib.Decide.{ℕ_discrete}
use native.Mathlib.Omega.{arith}
use borrow.Author.Tests.{eq-eqb, ne_eqb}
use Rattle.rounds.specs.Rounds.{known, Rounds}
use Rattle.rounds.specs.Theorems.{ThreeNumbers}

pub ten_rounds : Rounds 10
ten_rounds = record { least = omega arith; most = omega arith; even = refl }

-- ---- by the number, as the code's `match` tells it
module _ (nr : ℕ) where
  pub is_ten : nr ≡ 10 → true ≡ known nr
  unfolding known
  is_ten e = simp (eq-eqb nr 10 e)

  pub is_twelve : nr ≡ 12 → true ≡ known nr
  unfolding known
  is_twelve e = simp (ne_eqb nr 10 (λ f. omega arith), eq-eqb nr 12 e)

  pub is_fourteen : nr ≡ 14 → true ≡ known nr
  unfolding known
  is_fourteen e = simp (ne_eqb nr 10 (λ f. omega arith), ne_eqb nr 12 (λ f. omega arith), eq-eqb nr 14 e)

  pub is_none : (nr ≡ 10 → ⊥) → (nr ≡ 12 → ⊥) → (nr ≡ 14 → ⊥) → false ≡ known nr
  unfolding known
  is_none a b c = simp (ne_eqb nr 10 a, ne_eqb nr 12 b, ne_eqb nr 14 c)

  -- ---- arithmetic's reading
  pub known_rounds : known nr ≡ true → Rounds nr
  known_rounds k = go (ℕ_discrete nr 10) (ℕ_discrete nr 12) (ℕ_discrete nr 14)
    where
      go : Dec (nr ≡ 10) → Dec (nr ≡ 12) → Dec (nr ≡ 14) → Rounds nr
      go (yes e) b c = record { least = omega arith; most = omega arith; even = omega arith }
      go (no a) (yes e) c = record { least = omega arith; most = omega arith; even = omega arith }
      go (no a) (no b) (yes e) = record { least = omega arith; most = omega arith; even = omega arith }
      go (no a) (no b) (no c) = let e : false ≡ true = is_none a b c ∙ k in let y : ◌≡◌ {A = ℕ} 0 1 = cc in absurd (omega arith)

  pub rounds_known : Rounds nr → known nr ≡ true
  rounds_known R = go (ℕ_discrete nr 10) (ℕ_discrete nr 12)
    where
      go : Dec (nr ≡ 10) → Dec (nr ≡ 12) → known nr ≡ true
      go (yes e) b = sym (is_ten e)
      go (no a) (yes e) = sym (is_twelve e)
      go (no a) (no b) = sym (is_fourteen (omega (arith, R)))

pub three_numbers : ThreeNumbers
three_numbers = record {
  ten = ten_rounds;
  twelve = record { least = omega arith; most = omega arith; even = refl };
  fourteen = record { least = omega arith; most = omega arith; even = refl };
  only_known = rounds_known;
  all_known = known_rounds;
}
