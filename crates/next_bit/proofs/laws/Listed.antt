-- Laws, not definitions: the statement of specs/Search.antt, and searches one after the other. In a list that rises the first number at or after `from` is the smallest
-- such number.
-- Assumes nothing.
use mathlib.Core.List.{List, [], ◌∷◌}
use mathlib.Core.Path.{◌≡◌, refl, ap, subst}
use Prim.Native.Nat.{ℕ, zero, suc, ◌≤◌, ◌<◌}
use native.Mathlib.Decide.{dec_lt, ℕ_discrete}
use native.Mathlib.Nat.{not-suc-le-zero}
use native.Mathlib.Omega.{arith}
use lib.ListN.{length}
use Rattle.bits.specs.Lists.{at, Listed, Rising}
use Rattle.bits.proofs.laws.Listed.{head_listed, tail_listed, listed_behind, head_least, tail_rising}
use Rattle.next_bit.specs.NextBit.{next_in}
use Rattle.next_bit.specs.Search.{Smallest, AllBefore, SearchesExact}
use Rattle.next_bit.proofs.laws.Runs.{next_behind, next_first}
use Rattle.answers.proofs.laws.Tests.{same_value}
use Rattle.std.specs.Prelude.{Ok, Some, None, Option}

-- ---- what the search says is so
abbrev Says : List ℕ → ℕ → Option ℕ → Type 0
Says l from (Some v) = Smallest l from v
Says l from None = AllBefore l from

-- It says the same behind a number that lies before `from`.
says_behind : (v : ℕ) (vs : List ℕ) (from : ℕ) → v < from → (r : Option ℕ) → Says vs from r → Says (v ∷ vs) from r
says_behind v vs from h (Some w) s = record {
  listed = tail_listed v vs s.listed;
  reached = s.reached;
  least = λ u L a. s.least u (listed_behind v vs (λ e. omega arith) L) a;
}
says_behind v vs from h None s = λ u L. by u L (ℕ_discrete v u)
  where
    by : (u : ℕ) → Listed (v ∷ vs) u → Dec (v ≡ u) → u < from
    by u L (yes e) = omega arith
    by u L (no n) = s u (listed_behind v vs n L)

says : (l : List ℕ) → Rising l → (from : ℕ) → Says l from (next_in l from)
says [] r from = unfold next_in in λ u L. absurd (not-suc-le-zero L.inside)
says (v ∷ vs) r from = by (dec_lt v from) (says vs (tail_rising v vs r) from)
  where
    by : Dec (v < from) → Says vs from (next_in vs from) → Says (v ∷ vs) from (next_in (v ∷ vs) from)
    by (yes h) s = rw (next_behind v vs from h) (says_behind v vs from h (next_in vs from) s)
    by (no h) s =
        rw (next_first v vs from (omega arith))
        (record { listed = head_listed v vs; reached = omega arith; least = λ u L a. head_least v vs r u L })

-- ---- and nothing else
module _ (l : List ℕ) (from : ℕ) where
  only_bit : (v : ℕ) → Smallest l from v → (r : Option ℕ) → Says l from r → r ≡ Some v
  only_bit v S (Some w) s = ap Some (let e : w ≡ v = omega (arith, s.least v S.listed S.reached, S.least w s.listed s.reached) in e)
  only_bit v S None s = absurd (omega (arith, s v S.listed, S.reached))

  only_none : AllBefore l from → (r : Option ℕ) → Says l from r → r ≡ None
  only_none A (Some w) s = absurd (omega (arith, A w s.listed, s.reached))
  only_none A None s = refl

pub searches_exact : SearchesExact
searches_exact l r from = record {
  bit_only = λ v e. subst (Says l from) (same_value refl e) (says l r from);
  bit_if = λ v S. ap Ok (only_bit l from v S (next_in l from) (says l r from));
  none_only = λ e. subst (Says l from) (same_value refl e) (says l r from);
  none_if = λ A. ap Ok (only_none l from A (next_in l from) (says l r from));
}

-- ---- one search after the other
-- Where the search for the number at position p starts: at 0, and then behind the number found before.
unfoldable pub search_start : List ℕ → ℕ → ℕ
search_start l zero = 0
search_start l (suc p) = suc (at l p)

-- Each gives the next number of the list, and the one behind the last says that none is left.
pub record Enumerates (l : List ℕ) : Type 0 where
  pub each : (p : ℕ) → p < length l → next_in l (search_start l p) ≡ Some (at l p)
  pub end : next_in l (search_start l (length l)) ≡ None

module _ (l : List ℕ) (r : Rising l) where
  -- Where the search for position p starts lies above every number before, and not above the number there.
  start_above : (p q : ℕ) → q < p → p ≤ length l → at l q < search_start l p
  unfolding search_start
  start_above zero q h k = absurd (not-suc-le-zero h)
  start_above (suc p) q h k = by (dec_lt q p)
    where
      by : Dec (q < p) → at l q < suc (at l p)
      by (yes a) = omega (arith, r q p a k)
      by (no a) = let e : q ≡ p = omega arith in rw e (omega arith)

  start_reached : (p : ℕ) → p < length l → search_start l p ≤ at l p
  unfolding search_start
  start_reached zero h = omega arith
  start_reached (suc p) h = r p (suc p) (omega arith) h

  smallest_at : (p : ℕ) → p < length l → Smallest l (search_start l p) (at l p)
  smallest_at p h = record {
    listed = record { position = p; inside = h; number = refl };
    reached = start_reached p h;
    least = λ u L a. by u L a (dec_lt L.position p) (dec_lt p L.position);
  }
    where
      by : (u : ℕ) (L : Listed l u) → search_start l p ≤ u → Dec (L.position < p) → Dec (p < L.position) → at l p ≤ u
      by u L a (yes b) d = absurd (omega (arith, L.number, start_above p L.position b (omega arith)))
      by u L a (no b) (yes d) = omega (arith, L.number, r p L.position d L.inside)
      by u L a (no b) (no d) = let e : p ≡ L.position = omega arith in rw e (omega (arith, L.number))

pub searches_enumerate : (l : List ℕ) → Rising l → Enumerates l
searches_enumerate l r = record {
  each = λ p h. same_value refl ((searches_exact l r (search_start l p)).bit_if (at l p) (smallest_at l r p h));
  end = same_value refl ((searches_exact l r (search_start l (length l))).none_if
      (λ u L. subst (λ (v : ℕ). v < search_start l (length l)) L.number (start_above l r (length l) L.position L.inside (omega arith))));
}
