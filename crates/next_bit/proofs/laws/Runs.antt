-- Laws, not definitions: the first number at or after `from` in a list that is made run by run, each a row of numbers one after the other: runs that lie before `from`
-- are passed, and in the first that reaches beyond it the number is found.
-- Assumes nothing.
use mathlib.Core.List.{List, [], ◌∷◌, ◌++◌}
use mathlib.Core.Path.{◌≡◌, refl, sym, ap, ◌∙◌, subst}
use Prim.Native.Nat.{ℕ, zero, suc, ◌+◌, ◌≤◌, ◌<◌, max}
use native.Mathlib.Decide.{ℕ_discrete, dec_lt}
use native.Mathlib.Nat.{not-suc-le-zero}
use native.Mathlib.Omega.{arith}
use borrow.Author.Tests.{lt-ltb, le-ltb}
use Rattle.bits.specs.Lists.{tabulate, concat}
use Rattle.sensitivity.proofs.laws.Runs.{run}
use Rattle.next_bit.specs.NextBit.{next_in}
use Rattle.std.specs.Prelude.{Some, None}

-- A number is found, or none is left.
pub not_both : {A : Type 0} {v : ℕ} → Some v ≡ None → A
not_both e = let y : ◌≡◌ {A = ℕ} 0 1 = cc in absurd (omega arith)

-- ---- the first number of a list lies before `from`, or is the one
module _ (v : ℕ) (vs : List ℕ) (from : ℕ) where
  pub next_behind : v < from → next_in (v ∷ vs) from ≡ next_in vs from
  unfolding next_in
  next_behind h = rw (lt-ltb v from h)

  pub next_first : from ≤ v → next_in (v ∷ vs) from ≡ Some v
  unfolding next_in
  next_first h = rw (le-ltb v from h)

-- ---- one list behind another
passed_append : (u v : List ℕ) (from : ℕ) → next_in u from ≡ None → next_in (u ++ v) from ≡ next_in v from
passed_append [] v from e = refl
passed_append (x ∷ u) v from e = go (dec_lt x from) (λ f. passed_append u v from f)
  where
    go : Dec (x < from) → (next_in u from ≡ None → next_in (u ++ v) from ≡ next_in v from) → next_in (x ∷ (u ++ v)) from ≡ next_in v from
    go (yes h) ih = next_behind x (u ++ v) from h ∙ ih (sym (next_behind x u from h) ∙ e)
    go (no h) ih = not_both (sym (next_first x u from (omega arith)) ∙ e)

found_append : (u v : List ℕ) (from w : ℕ) → next_in u from ≡ Some w → next_in (u ++ v) from ≡ Some w
found_append [] v from w e = not_both (sym e ∙ (unfold next_in in refl))
found_append (x ∷ u) v from w e = go (dec_lt x from) (λ f. found_append u v from w f)
  where
    go : Dec (x < from) → (next_in u from ≡ Some w → next_in (u ++ v) from ≡ Some w) → next_in (x ∷ (u ++ v)) from ≡ Some w
    go (yes h) ih = next_behind x (u ++ v) from h ∙ ih (sym (next_behind x u from h) ∙ e)
    go (no h) ih = next_first x (u ++ v) from (omega arith) ∙ sym (next_first x u from (omega arith)) ∙ e

-- ---- a run of n numbers f 0, f 1, .., from a on, that lies before `from`; and one that reaches beyond it
run_passed : (n a from : ℕ) (f : ℕ → ℕ) → ((e : ℕ) → f e ≡ a + e) → a + n ≤ from → next_in (tabulate n f) from ≡ None
unfolding next_in tabulate
run_passed zero a from f e h = refl
run_passed (suc n) a from f e h =
    next_behind (f 0) (tabulate n (λ k. f (suc k))) from (omega (arith, e 0))
    ∙ run_passed n (suc a) from (λ k. f (suc k)) (λ k. e (suc k) ∙ omega arith) (omega arith)

run_found : (n a from : ℕ) (f : ℕ → ℕ) → ((e : ℕ) → f e ≡ a + e) → 0 < n → from < a + n → next_in (tabulate n f) from ≡ Some (max from a)
unfolding tabulate
run_found zero a from f e p h = absurd (omega arith)
run_found (suc n) a from f e p h = go (dec_lt (f 0) from) (λ q l. run_found n (suc a) from (λ k. f (suc k)) (λ k. e (suc k) ∙ omega arith) q l)
  where
    go : Dec (f 0 < from) → (0 < n → from < suc a + n → next_in (tabulate n (λ k. f (suc k))) from ≡ Some (max from (suc a)))
        → next_in (f 0 ∷ tabulate n (λ k. f (suc k))) from ≡ Some (max from a)
    go (yes c) ih =
        next_behind (f 0) (tabulate n (λ k. f (suc k))) from c
        ∙ ih (omega (arith, e 0)) (omega arith)
        ∙ ap Some (let z : max from (suc a) ≡ max from a = omega (arith, e 0) in z)
    go (no c) ih = next_first (f 0) (tabulate n (λ k. f (suc k))) from (omega arith) ∙ ap Some (let z : f 0 ≡ max from a = omega (arith, e 0) in z)

-- ---- run after run: run k has `many k` numbers from `first k` on
module _ (first many : ℕ → ℕ) (from : ℕ) where
  abbrev runs : ℕ → List ℕ
  runs n = concat n (run first many)

  -- One run more is passed.
  pub next_passed : (n : ℕ) → next_in (runs n) from ≡ None → first n + many n ≤ from → next_in (runs (suc n)) from ≡ None
  unfolding concat
  next_passed n e h = passed_append (runs n) (run first many n) from e ∙ run_passed (many n) (first n) from (λ e. first n + e) (λ e. refl) h

  -- It is found in run k.
  pub next_found : (n k : ℕ) → k < n → next_in (runs k) from ≡ None → 0 < many k → from < first k + many k → next_in (runs n) from ≡ Some (max from (first k))
  unfolding concat
  next_found zero k h e p l = absurd (not-suc-le-zero h)
  next_found (suc n) k h e p l = go (ℕ_discrete k n) (λ c. next_found n k c e p l)
    where
      go : Dec (k ≡ n) → (k < n → next_in (runs n) from ≡ Some (max from (first k))) → next_in (runs n ++ run first many n) from ≡ Some (max from (first k))
      go (yes z) ih =
          subst (λ (m : ℕ). next_in (runs m ++ run first many m) from ≡ Some (max from (first k))) z
          (passed_append (runs k) (run first many k) from e ∙ run_found (many k) (first k) from (λ e. first k + e) (λ e. refl) p l)
      go (no z) ih = found_append (runs n) (run first many n) from (max from (first k)) (ih (omega arith))
