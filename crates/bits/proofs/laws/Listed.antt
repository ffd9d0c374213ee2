-- Laws, not definitions: the numbers that stand in a list, and those of a list that rises.
-- Assumes nothing.
use mathlib.Core.List.{List, [], ◌∷◌}
use mathlib.Core.Path.{◌≡◌, refl, subst}
use Prim.Native.Nat.{ℕ, zero, suc, ◌≤◌, ◌<◌, suc-le-suc}
use native.Mathlib.Decide.{ℕ_discrete}
use native.Mathlib.Nat.{not-suc-le-zero, le_of_suc-le-suc, zero-lt-suc}
use native.Mathlib.Omega.{arith}
use lib.ListN.{length}
use Rattle.bits.specs.Lists.{at, Listed, Rising}

-- ---- the first number of a list, and those behind it
module _ (v : ℕ) (vs : List ℕ) where
  pub head_listed : Listed (v ∷ vs) v
  head_listed = record { position = 0; inside = zero-lt-suc (length vs); number = refl }

  pub tail_listed : {u : ℕ} → Listed vs u → Listed (v ∷ vs) u
  tail_listed L = record { position = suc L.position; inside = suc-le-suc L.inside; number = L.number }

  -- Another number than the first is one of those behind it.
  pub listed_behind : {u : ℕ} → (v ≡ u → ⊥) → Listed (v ∷ vs) u → Listed vs u
  listed_behind {u} n L = by L.position L.inside L.number
    where
      by : (p : ℕ) → p < length (v ∷ vs) → at (v ∷ vs) p ≡ u → Listed vs u
      by zero k e = absurd (n e)
      by (suc p) k e = record { position = p; inside = le_of_suc-le-suc k; number = e }

  -- Of a list that rises the first is the smallest, and the others rise too.
  pub head_least : Rising (v ∷ vs) → (u : ℕ) → Listed (v ∷ vs) u → v ≤ u
  head_least r u L = by L.position L.inside L.number
    where
      by : (p : ℕ) → p < length (v ∷ vs) → at (v ∷ vs) p ≡ u → v ≤ u
      by zero h e = omega (arith, e)
      by (suc p) h e = omega (arith, e, r 0 (suc p) (zero-lt-suc p) h)

  pub tail_rising : Rising (v ∷ vs) → Rising vs
  tail_rising r p q a b = r (suc p) (suc q) (suc-le-suc a) (suc-le-suc b)

-- ---- of a number it is decided whether it stands in a list
pub listed? : (l : List ℕ) (v : ℕ) → Dec (Listed l v)
listed? [] v = no (λ p. not-suc-le-zero p.inside)
listed? (y ∷ l) v = go (ℕ_discrete y v) (listed? l v)
  where
    go : Dec (y ≡ v) → Dec (Listed l v) → Dec (Listed (y ∷ l) v)
    go (yes e) d = yes (subst (Listed (y ∷ l)) e (head_listed y l))
    go (no n) (yes p) = yes (tail_listed y l p)
    go (no n) (no q) = no (λ p. q (listed_behind y l n p))
