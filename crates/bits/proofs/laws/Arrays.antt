-- Laws, not definitions: of arrays that the library makes, by a closure that keeps what it captures.
-- Assumes nothing.
use mathlib.Core.Path.{◌≡◌, sym, subst, ap, ◌∙◌}
use mathlib.Core.List.{List}
use Prim.Native.Nat.{ℕ, zero, suc, ◌+◌, ◌<◌}
use native.Mathlib.Nat.{zero-add, add-zero}
use native.Mathlib.Omega.{arith}
use lib.ListN.{length}
use denote.Param.Members.{Mut}
use Rattle.std.specs.Array.{IsFromFnResultFrom, IsFromFnResult, MapsFrom, IsMapOf}
use Rattle.std.specs.Fn.{Called}
use Rattle.bits.specs.Lists.{at, tabulate}
use Rattle.bits.proofs.laws.Lists.{ext_at, length_tabulate, at_tabulate}

-- A list from its elements.
listed : (n : ℕ) (v : ℕ → ℕ) (t : List ℕ) → length t ≡ n → ((i : ℕ) → i < n → at t i ≡ v i) → t ≡ tabulate n v
listed n v t l e = ext_at n t (tabulate n v) l (length_tabulate n v) (λ i h. e i h ∙ sym (at_tabulate n v i h))

-- `array::from_fn`: the closure gives v i at i.
module _ {F : Type 0} {g : Mut F (ℕ × Unit {0}) ℕ} {f : F} (v : ℕ → ℕ)
    (gives : (i y : ℕ) (q : F) → Called g f (i, tt) y q → (y ≡ v i) × (q ≡ f)) where
  from_each : (ys : List ℕ) (n i : ℕ) → IsFromFnResultFrom g f ys i n → (j : ℕ) → j < n → at ys (i + j) ≡ v (i + j)
  from_each ys zero i e j h = absurd (omega arith)
  from_each ys (suc n) i (q, y, here, called, others) zero h = rw add-zero (here.1 0 ∙ (gives i y q called).0)
  from_each ys (suc n) i (q, y, here, called, others) (suc j) h =
      let same : q ≡ f = (gives i y q called).1 in
      let next : i + 1 + j ≡ i + suc j = omega arith in
      subst (λ (k : ℕ). at ys k ≡ v k) next (from_each ys n (i + 1) (subst (λ (p : F). IsFromFnResultFrom g p ys (i + 1) n) same others) j (omega arith))

  pub from_fn : {n : ℕ} {t : List ℕ} → IsFromFnResult g f t n → t ≡ tabulate n v
  from_fn {n} {t} r = listed n v t r.long (λ i h. rw zero-add at (from_each t n 0 r.each i h))

-- `map` of an array: the closure gives v x at x.
module _ {F : Type 0} {g : Mut F (ℕ × Unit {0}) ℕ} {f : F} (v : ℕ → ℕ)
    (gives : (x y : ℕ) (q : F) → Called g f (x, tt) y q → (y ≡ v x) × (q ≡ f)) where
  map_each : (xs ys : List ℕ) (n i : ℕ) → MapsFrom g f xs ys i n → (j : ℕ) → j < n → at ys (i + j) ≡ v (at xs (i + j))
  map_each xs ys zero i e j h = absurd (omega arith)
  map_each xs ys (suc n) i (q, x, y, from, here, called, others) zero h = rw add-zero (here.1 0 ∙ (gives x y q called).0 ∙ ap v (sym (from.1 0)))
  map_each xs ys (suc n) i (q, x, y, from, here, called, others) (suc j) h =
      let same : q ≡ f = (gives x y q called).1 in
      let next : i + 1 + j ≡ i + suc j = omega arith in
      subst (λ (k : ℕ). at ys k ≡ v (at xs k)) next (map_each xs ys n (i + 1) (subst (λ (p : F). MapsFrom g p xs ys (i + 1) n) same others) j (omega arith))

  pub mapped : {n : ℕ} {xs t : List ℕ} → IsMapOf g f xs t n → t ≡ tabulate n (λ i. v (at xs i))
  mapped {n} {xs} {t} r = listed n (λ i. v (at xs i)) t r.long (λ i h. rw zero-add at (map_each xs t n 0 r.each i h))
