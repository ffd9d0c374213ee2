-- Laws, not definitions: runs of numbers one after the other, each in a range of its own. They rise, and what stands in the list stands in a run.
-- Assumes nothing.
use mathlib.Core.List.{List, ◌++◌}
use mathlib.Core.Path.{◌≡◌, refl, sym, ap, ◌∙◌, subst}
use Prim.Native.Nat.{ℕ, zero, suc, ◌+◌, ◌-◌, ◌≤◌, ◌<◌}
use native.Mathlib.Decide.{ℕ_discrete, dec_lt}
use native.Mathlib.Nat.{not-suc-le-zero}
use native.Mathlib.Omega.{arith}
use lib.ListN.{length, length-append, get_or-append}
use lib.Seq.{get_or-append-add}
use Rattle.bits.specs.Lists.{at, tabulate, concat, Listed, Rising}
use Rattle.bits.proofs.laws.Lists.{length_tabulate, at_tabulate}

at_behind : (u v : List ℕ) (n : ℕ) → length u ≤ n → at (u ++ v) n ≡ at v (n - length u)
at_behind u v n h =
    ap (at (u ++ v)) (let e : n ≡ length u + (n - length u) = omega arith in e) ∙ get_or-append-add u v (n - length u) 0

-- Run k has `many k` numbers, from `first k` on.
module _ (first many : ℕ → ℕ) where
  abbrev pub run : ℕ → List ℕ
  run k = tabulate (many k) (λ e. first k + e)

  run_long : (k : ℕ) → length (run k) ≡ many k
  run_long k = length_tabulate (many k) (λ e. first k + e)

  -- Of n runs, the one in which v stands, and v's number in it.
  pub record InRun (n v : ℕ) : Type 0 where
    pub run : ℕ
    pub below : run < n
    pub index : ℕ
    pub within : index < many run
    pub is : v ≡ first run + index

  pub listed_run : (n v : ℕ) → Listed (concat n run) v → InRun n v
  unfolding concat
  listed_run zero v p = absurd (not-suc-le-zero p.inside)
  listed_run (suc n) v p = go (dec_lt i (length (concat n run))) (λ q. listed_run n v q)
    where
      i : ℕ
      i = p.position

      go : Dec (i < length (concat n run)) → (Listed (concat n run) v → InRun n v) → InRun (suc n) v
      go (yes h) ih =
          let r = ih (record { position = i; inside = h; number = sym (get_or-append (concat n run) (run n) 0 i h) ∙ p.number }) in
          record { run = r.run; below = omega (arith, r.below); index = r.index; within = r.within; is = r.is }
      go (no h) ih =
          let e : ℕ = i - length (concat n run) in
          let l : e < many n = omega (arith, p.inside, length-append (concat n run) (run n), run_long n) in
          record {
            run = n;
            below = omega arith;
            index = e;
            within = l;
            is = sym p.number ∙ at_behind (concat n run) (run n) i (omega arith) ∙ at_tabulate (many n) (λ e. first n + e) e l;
          }

  pub run_listed : (n k e : ℕ) → k < n → e < many k → Listed (concat n run) (first k + e)
  unfolding concat
  run_listed zero k e h l = absurd (not-suc-le-zero h)
  run_listed (suc n) k e h l = go (ℕ_discrete k n) (λ c. run_listed n k e c l)
    where
      go : Dec (k ≡ n) → (k < n → Listed (concat n run) (first k + e)) → Listed (concat n run ++ run n) (first k + e)
      go (yes z) ih =
          let l' : e < many n = subst (λ (m : ℕ). e < many m) z l in
          record {
            position = length (concat n run) + e;
            inside = omega (arith, length-append (concat n run) (run n), run_long n);
            number = get_or-append-add (concat n run) (run n) e 0 ∙ at_tabulate (many n) (λ e. first n + e) e l' ∙ ap (λ (m : ℕ). first m + e) (sym z);
          }
      go (no z) ih =
          let p = ih (omega arith) in
          record {
            position = p.position;
            inside = omega (arith, p.inside, length-append (concat n run) (run n));
            number = get_or-append (concat n run) (run n) 0 p.position p.inside ∙ p.number;
          }

  -- ---- run k lies between the limits k and k + 1
  module _ (limit : ℕ → ℕ) (all : ℕ)
      (least : (k : ℕ) → k < all → limit k ≤ first k)
      (most : (k : ℕ) → k < all → first k + many k ≤ limit (suc k)) where
    limits : (n k : ℕ) → n ≤ all → k < n → limit (suc k) ≤ limit n
    limits zero k h l = absurd (not-suc-le-zero l)
    limits (suc n) k h l = go (ℕ_discrete k n) (λ c. limits n k (omega arith) c)
      where
        go : Dec (k ≡ n) → (k < n → limit (suc k) ≤ limit n) → limit (suc k) ≤ limit (suc n)
        go (yes e) ih = subst (λ (x : ℕ). limit (suc k) ≤ limit (suc x)) e (omega arith)
        go (no e) ih = omega (arith, ih (omega arith), least n (omega arith), most n (omega arith))

    pub run_below : (n v : ℕ) → n ≤ all → Listed (concat n run) v → v < limit n
    run_below n v h p =
        let r = listed_run n v p in
        omega (arith, r.is, r.within, most r.run (omega (arith, r.below)), limits n r.run h r.below)

    pub runs_rise : (n : ℕ) → n ≤ all → Rising (concat n run)
    unfolding concat
    runs_rise zero h p q a b = absurd (not-suc-le-zero b)
    runs_rise (suc n) h p q a b = go (dec_lt q long) (dec_lt p long) (λ c. runs_rise n (omega arith) p q a c)
      where
        long : ℕ
        long = length (concat n run)

        here : (i : ℕ) → long ≤ i → i < length (concat n run ++ run n) → at (concat n run ++ run n) i ≡ first n + (i - long)
        here i l m =
            at_behind (concat n run) (run n) i l
            ∙ at_tabulate (many n) (λ e. first n + e) (i - long) (omega (arith, length-append (concat n run) (run n), run_long n))

        before : (i : ℕ) → i < long → at (concat n run) i < limit n
        before i l = run_below n (at (concat n run) i) (omega arith) (record { position = i; inside = l; number = refl })

        go : Dec (q < long) → Dec (p < long) → (q < long → at (concat n run) p < at (concat n run) q)
            → at (concat n run ++ run n) p < at (concat n run ++ run n) q
        go (yes c) d ih = rw (get_or-append (concat n run) (run n) 0 p (omega arith), get_or-append (concat n run) (run n) 0 q c) (ih c)
        go (no c) (yes d) ih =
            rw (here q (omega arith) b, get_or-append (concat n run) (run n) 0 p d) (omega (arith, before p d, least n (omega arith)))
        go (no c) (no d) ih = rw (here q (omega arith) b, here p (omega arith) (omega arith)) (omega arith)
