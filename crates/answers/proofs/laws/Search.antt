-- Laws, not definitions: what the search for the first number finds, a loop that searches, and the refusal for what it found.
-- Assumes nothing.
use mathlib.Core.Bool.{Bool, true, false}
use mathlib.Core.Path.{◌≡◌, refl, sym, ap, ap₂, ◌∙◌, subst}
use Prim.Native.Nat.{ℕ, zero, suc, ◌+◌, ◌-◌, ◌≤◌, ◌<◌}
use native.Mathlib.Decide.{ℕ_discrete, dec_lt}
use native.Mathlib.Numerals.{add-one}
use native.Mathlib.Omega.{arith}
use Rattle.answers.specs.Search.{All, FirstBad, pick, first_from, first, is_found, some_below, refused_at}
use Rattle.answers.specs.declared.Refusal.{Refusal}
use Rattle.answers.proofs.laws.Tests.{clash}
use Rattle.answers.specs.Answer.{Answer, Accepted, Refused}
use Rattle.std.specs.Prelude.{Some, None, Option}
use Rattle.std.proofs.lemmas.Bool.{true_from_ne_false}

-- ---- what an answer says, from n on
abbrev Says : ℕ → ℕ → (ℕ → Bool) → Option ℕ → Type 0
Says k n p (Some m) = (n ≤ m) × (m < n + k) × (p m ≡ true) × ((i : ℕ) → n ≤ i → i < m → p i ≡ false)
Says k n p None = (i : ℕ) → n ≤ i → i < n + k → p i ≡ false

here_or : (p : ℕ → Bool) (n i : ℕ) → p n ≡ false → n ≤ i → (n < i → p i ≡ false) → p i ≡ false
here_or p n i e h r = elim (ℕ_discrete n i) [
  | yes q ↦ subst (λ (x : ℕ). p x ≡ false) q e
  | no q ↦ r (omega arith)
]

step : (k n : ℕ) (p : ℕ → Bool) (r : Option ℕ) (b : Bool) → p n ≡ b → Says k (suc n) p r → Says (suc k) n p (pick b (Some n) r)
step k n p r true e A = (omega arith, omega arith, e, λ i h j. absurd (omega arith))
step k n p (Some m) false e A = (omega (arith, A.0), omega (arith, A.1), A.2, λ i h j. here_or p n i e h (λ g. A.3 i g j))
step k n p None false e A = λ i h j. here_or p n i e h (λ g. A i g (omega arith))

says : (k n : ℕ) (p : ℕ → Bool) → Says k n p (first_from k n p)
unfolding first_from
says zero n p = λ i h j. absurd (omega arith)
says (suc k) n p = step k n p (first_from k (suc n) p) (p n) refl (says k (suc n) p)

same : (k : ℕ) (p : ℕ → Bool) (r s : Option ℕ) → Says k 0 p r → Says k 0 p s → r ≡ s
same k p (Some m) (Some n) A B = elim (dec_lt m n) [
  | yes q ↦ absurd (clash (p m) A.2 (B.3 m (omega arith) q))
  | no q ↦ elim (dec_lt n m) [
    | yes t ↦ absurd (clash (p n) B.2 (A.3 n (omega arith) t))
    | no t ↦ let e : m ≡ n = omega arith in ap Some e
  ]
]
same k p (Some m) None A B = absurd (clash (p m) A.2 (B m A.0 A.1))
same k p None (Some n) A B = absurd (clash (p n) B.2 (A n B.0 B.1))
same k p None None A B = refl

-- ---- two tests that agree below the count find the same
from_same : (k n : ℕ) (p q : ℕ → Bool) → ((i : ℕ) → i < n + k → p i ≡ q i) → first_from k n p ≡ first_from k n q
unfolding first_from
from_same zero n p q e = refl
from_same (suc k) n p q e =
    ap₂ (λ (b : Bool) (r : Option ℕ). pick b (Some n) r) (e n (omega arith)) (from_same k (suc n) p q (λ i h. e i (omega arith)))

pub first_same : (count : ℕ) (p q : ℕ → Bool) → ((i : ℕ) → i < count → p i ≡ q i) → first count p ≡ first count q
unfolding first
first_same count p q e = from_same count 0 p q (λ i h. e i (omega arith))

-- ---- a search by a test that is exact
module _ (count : ℕ) (p : ℕ → Bool) (Good : ℕ → Type 0) (to : (i : ℕ) → p i ≡ false → Good i) (from : (i : ℕ) → Good i → p i ≡ false) where
  answer : (r : Option ℕ) → first count p ≡ r → Says count 0 p r
  unfolding first
  answer r e = subst (Says count 0 p) e (says count 0 p)

  is : (r : Option ℕ) → Says count 0 p r → first count p ≡ r
  unfolding first
  is r A = same count p (first count p) r (says count 0 p) A

  pub none_all : first count p ≡ None → All count Good
  none_all e i h = to i (answer None e i (omega arith) (omega arith))

  pub all_none : All count Good → first count p ≡ None
  all_none A = is None (λ i h j. from i (A i (omega arith)))

  pub at_bad : (n : ℕ) → first count p ≡ Some n → FirstBad count Good n
  at_bad n e =
      let A = answer (Some n) e in
      record { below = omega (arith, A.1); before = λ i h. to i (A.3 i (omega arith) h); here = λ g. clash (p n) A.2 (from n g) }

  pub bad_at : (n : ℕ) → FirstBad count Good n → first count p ≡ Some n
  bad_at n B =
      is (Some n) (omega arith, omega (arith, B.below), true_from_ne_false (p n) (λ e. B.here (to n e)), λ i h j. from i (B.before i j))

-- ---- whether one is picked
module _ (count : ℕ) (p : ℕ → Bool) where
  abbrev Unpicked : ℕ → Type 0
  Unpicked i = p i ≡ false

  pub none_picked : some_below count p ≡ false → All count Unpicked
  none_picked = by (first count p) refl
    where
      by : (f : Option ℕ) → first count p ≡ f → is_found f ≡ false → All count Unpicked
      by (Some n) e t = let y : ◌≡◌ {A = ℕ} 0 1 = cc in absurd (omega arith)
      by None e t = none_all count p Unpicked (λ i h. h) (λ i h. h) e

  pub all_passed : All count Unpicked → some_below count p ≡ false
  all_passed none = ap is_found (all_none count p Unpicked (λ i h. h) (λ i h. h) none)

  -- One that is picked.
  pub record Picked : Type 0 where
    pub number : ℕ
    pub below : number < count
    pub picked : p number ≡ true

  pub some_picked : some_below count p ≡ true → Picked
  some_picked = by (first count p) refl
    where
      by : (f : Option ℕ) → first count p ≡ f → is_found f ≡ true → Picked
      by (Some n) e t =
          let found = at_bad count p Unpicked (λ i h. h) (λ i h. h) n e in
          record { number = n; below = found.below; picked = true_from_ne_false (p n) found.here }
      by None e t = let y : ◌≡◌ {A = ℕ} 0 1 = cc in absurd (omega arith)

-- ---- a loop that searches: none of the first n numbers is picked, and what is left has the answer of the whole
pub record Searched (count : ℕ) (p : ℕ → Bool) (n : ℕ) : Type 0 where
  pub within : n ≤ count
  pub same : first count p ≡ first_from (count - n) n p

pub searched_none : (count : ℕ) (p : ℕ → Bool) → Searched count p 0
unfolding first
searched_none count p = let k : count - 0 ≡ count = omega arith in record { within = omega arith; same = rw k }

-- Number n is tested, and r is what the test says.
module _ {count n : ℕ} {p : ℕ → Bool} {r : Bool} (I : Searched count p n) (h : n < count) (e : r ≡ p n) where
  pub searched_here : r ≡ true → Some n ≡ first count p
  unfolding first_from
  searched_here t = let k : count - n ≡ suc (count - (n + 1)) = omega arith in sym (I.same ∙ rw (k, ← e, t))

  pub searched_next : r ≡ false → Searched count p (n + 1)
  unfolding first_from
  searched_next t =
      let k : count - n ≡ suc (count - (n + 1)) = omega arith in
      record { within = omega arith; same = I.same ∙ rw (k, ← e, t, add-one n) }

pub searched_all : {count n : ℕ} {p : ℕ → Bool} → Searched count p n → count ≤ n → None ≡ first count p
unfolding first_from
searched_all {count} {n} I h = let k : count - n ≡ 0 = omega arith in sym (I.same ∙ rw k)

-- ---- a search found f: refused for the number that it found, or accepted
pub found_refuses : (f : Option ℕ) (r : ℕ → Refusal) (n : ℕ) → f ≡ Some n → Refused (r n) ≡ refused_at f r
found_refuses f r n e = ap (λ (x : Option ℕ). refused_at x r) (sym e)

pub found_passes : (f : Option ℕ) (r : ℕ → Refusal) → f ≡ None → Accepted ≡ refused_at f r
found_passes f r e = ap (λ (x : Option ℕ). refused_at x r) (sym e)

pub none_found : (f : Option ℕ) (r : ℕ → Refusal) → refused_at f r ≡ Accepted → f ≡ None
none_found (Some n) r e = let y : ◌≡◌ {A = ℕ} 0 1 = cc in absurd (omega arith)
none_found None r e = refl

-- What holds of each answer that can be given, holds of the one that is.
pub by_refused_at : (P : Answer → Type 0) (f : Option ℕ) (r : ℕ → Refusal) → ((n : ℕ) → f ≡ Some n → P (Refused (r n))) → (f ≡ None → P Accepted)
    → P (refused_at f r)
by_refused_at P (Some n) r h k = h n refl
by_refused_at P None r h k = k refl
