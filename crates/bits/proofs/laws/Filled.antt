-- Laws, not definitions: of a loop that fills n places of a list from the front, place i with f i, one a turn.
-- Assumes nothing.
use mathlib.Core.Path.{◌≡◌, refl, sym, ap, ◌∙◌}
use mathlib.Core.List.{List}
use Prim.Native.Nat.{ℕ, ◌+◌, ◌≤◌, ◌<◌}
use native.Mathlib.Omega.{arith}
use lib.ListN.{length, set, take, length-set}
use lib.Seq.{get_or-take, length-take-le}
use Rattle.bits.specs.Lists.{at, tabulate}
use Rattle.bits.proofs.laws.Lists.{fill_more, fill_all, at_tabulate, length_tabulate, ext_at}

-- The loop's invariant: the first i of the n places of t are filled.
pub record Filled (n : ℕ) (f : ℕ → ℕ) (t : List ℕ) (i : ℕ) : Type 0 where
  pub within : i ≤ n
  pub long : length t ≡ n
  pub front : take i t ≡ tabulate i f

pub filled_none : (n : ℕ) (f : ℕ → ℕ) (t : List ℕ) → length t ≡ n → Filled n f t 0
unfolding tabulate
filled_none n f t l = record { within = omega arith; long = l; front = refl }

pub filled_more : {n : ℕ} {f : ℕ → ℕ} {t : List ℕ} {i v : ℕ} → Filled n f t i → i < n → v ≡ f i → Filled n f (set t i v) (i + 1)
filled_more {f = f} {t = t} {i = i} {v = v} g h e =
    let l = length-set t i v in
    record {
      within = omega arith;
      long = omega arith;
      front = fill_more t i f v (omega arith) g.front e;
    }

pub filled_all : {n : ℕ} {f : ℕ → ℕ} {t : List ℕ} {i : ℕ} → Filled n f t i → n ≤ i → t ≡ tabulate n f
filled_all {n} {f} {t} {i} g h = fill_all n t i f g.long (omega arith) g.front

-- What is filled: place j, and the first k places.
module _ {n : ℕ} {f : ℕ → ℕ} {t : List ℕ} {i : ℕ} (g : Filled n f t i) where
  pub filled_at : (j : ℕ) → j < i → at t j ≡ f j
  filled_at j h = sym (get_or-take i t j 0 h) ∙ ap (λ (u : List ℕ). at u j) g.front ∙ at_tabulate i f j h

  pub filled_front : {k : ℕ} → k ≤ i → take k t ≡ tabulate k f
  filled_front {k} h =
      ext_at k (take k t) (tabulate k f) (length-take-le k t (omega (arith, g.within, g.long))) (length_tabulate k f)
      (λ j l. get_or-take k t j 0 l ∙ filled_at j (omega arith) ∙ sym (at_tabulate k f j l))
