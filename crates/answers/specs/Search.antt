-- The first number that a test picks, looking forward; what it is without the search; and the refusal for it. Definitions only.
use Rattle.std.specs.Prelude.{Bool, true, false, ℕ, zero, suc, ◌<◌, Some, None, Option}
use Rattle.answers.specs.declared.Refusal.{Refusal}
use Rattle.answers.specs.Answer.{Answer, Accepted, Refused}

abbrev pub pick : Bool → Option ℕ → Option ℕ → Option ℕ
pick true a b = a
pick false a b = b

-- The first of the k numbers n, n + 1, .. that the test p picks.
unfoldable pub first_from : ℕ → ℕ → (ℕ → Bool) → Option ℕ
first_from zero n p = None
first_from (suc k) n p = let r = first_from k (suc n) p in pick (p n) (Some n) r

-- The first number below a count that p picks.
unfoldable pub first : ℕ → (ℕ → Bool) → Option ℕ
first count p = first_from count 0 p

-- A search found something: some number below a count is picked.
abbrev pub is_found : Option ℕ → Bool
is_found (Some n) = true
is_found None = false

abbrev pub some_below : ℕ → (ℕ → Bool) → Bool
some_below count p = is_found (first count p)

-- All numbers below a count are good; and n is the first that is not.
abbrev pub All : ℕ → (ℕ → Type 0) → Type 0
All count Good = (i : ℕ) → i < count → Good i

pub record FirstBad (count : ℕ) (Good : ℕ → Type 0) (n : ℕ) : Type 0 where
  pub below : n < count
  pub before : All n Good
  pub here : Good n → ⊥

-- A cause with its first offender: refused where the search found one.
abbrev pub refused_at : Option ℕ → (ℕ → Refusal) → Answer
refused_at (Some n) r = Refused (r n)
refused_at None r = Accepted
