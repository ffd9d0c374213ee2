-- Laws, not definitions: walks over any tables. The count grows by one a lookup, walks add up, and only the tables of lookups that are
-- made matter.
-- Assumes nothing.
use mathlib.Core.Bool.{Bool, true, false, cond}
use mathlib.Core.List.{List, [], ◌∷◌}
use mathlib.Core.Path.{◌≡◌, refl, sym, ap, ◌∙◌}
use Prim.Native.Nat.{ℕ, zero, suc, ◌+◌, ◌-◌, ◌<◌}
use native.Mathlib.Decide.{dec_lt}
use native.Mathlib.Nat.{not-suc-le-zero}
use native.Mathlib.Omega.{arith}
use borrow.Author.Tests.{lt-ltb, le-ltb}
use lib.Dec.{eqb, ltb}
use Rattle.network.specs.Lookups.{State, Shape, lookup_in, lookup_at, lookup, walked}
use Rattle.network.specs.Order.{layer_lookups}
use Rattle.network.specs.Sizes.{lookups_in}
use Rattle.network.proofs.laws.Layers.{widths_in, lookup_none}

-- ---- the count
count_cond : (b : Bool) (x y : State) (n : ℕ) → x.count ≡ n → y.count ≡ n → (cond b x y).count ≡ n
count_cond true x y n p q = p
count_cond false x y n p q = q

pub count_in : (S : Shape) (j : ℕ) (t : List ℕ) (w : State) → (lookup_in S j t w).count ≡ suc w.count
unfolding lookup_in
count_in S j t w =
    count_cond (ltb j 16) _ _ (suc w.count) refl (count_cond (eqb (suc j) (layer_lookups S.width)) _ _ (suc w.count) refl refl)

pub count_at : (Ss : List Shape) (k : ℕ) (t : List ℕ) (w : State) → k < lookups_in (widths_in Ss) → (lookup_at Ss k t w).count ≡ suc w.count
unfolding lookup_at lookups_in
count_at [] k t w h = absurd (not-suc-le-zero h)
count_at (S ∷ Ss) k t w h = elim (dec_lt k (layer_lookups S.width)) [
  | yes l ↦ rw (lt-ltb k (layer_lookups S.width) l) (count_in S k t w)
  | no l ↦ rw (le-ltb k (layer_lookups S.width) (omega arith)) (count_at Ss (k - layer_lookups S.width) t w (omega arith))
]

module _ (Ss : List Shape) where
  -- ---- one walk after another
  pub walked_add : (t : ℕ → List ℕ) (a b : ℕ) (w : State) → walked Ss t (a + b) w ≡ walked Ss t b (walked Ss t a w)
  unfolding walked
  walked_add t zero b w = ap (λ (n : ℕ). walked Ss t n w) (let e : 0 + b ≡ b = omega arith in e)
  walked_add t (suc a) b w =
      ap (λ (n : ℕ). walked Ss t n w) (let e : suc a + b ≡ suc (a + b) = omega arith in e) ∙ walked_add t a b (lookup Ss (t w.count) w)

  -- ---- the same tables
  pub walked_same : (t u : ℕ → List ℕ) → ((k : ℕ) → k < lookups_in (widths_in Ss) → t k ≡ u k) → (n : ℕ) (w : State) → walked Ss t n w ≡ walked Ss u n w
  unfolding walked
  walked_same t u e zero w = refl
  walked_same t u e (suc n) w = walked_same t u e n (lookup Ss (t w.count) w) ∙ ap (walked Ss u n) (one (dec_lt w.count (lookups_in (widths_in Ss))))
    where
      one : Dec (w.count < lookups_in (widths_in Ss)) → lookup Ss (t w.count) w ≡ lookup Ss (u w.count) w
      one (yes h) = ap (λ (x : List ℕ). lookup Ss x w) (e w.count h)
      one (no h) =
          unfold lookup in
          lookup_none Ss w.count (t w.count) w (omega arith) ∙ sym (lookup_none Ss w.count (u w.count) w (omega arith))
