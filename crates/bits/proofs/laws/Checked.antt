-- Laws, not definitions: a rule of a table, or of all numbers below n, from one test that antt computes over them all.
-- Assumes nothing.
use mathlib.Core.Path.{◌≡◌, refl, ◌∙◌, subst, sym}
use mathlib.Core.Bool.{Bool, true, false, cond, ◌||◌}
use mathlib.Core.List.{List, [], ◌∷◌, ◌++◌}
use Prim.Native.Nat.{ℕ, zero, suc, ◌+◌, ◌<◌}
use native.Mathlib.Nat.{add-zero, zero-add, add-suc, suc-add, le_of_suc-le-suc, not-suc-le-zero}
use native.Mathlib.Decide.{ℕ_discrete}
use lib.Arith.{lt_of_le-ne}
use borrow.Author.Tests.{eqb-true}
use lib.Dec.{T, eqb}
use lib.ListN.{length, get_or}

abbrev pub both : Bool → Bool → Bool
both true b = b
both false b = false

pub both_left : (a b : Bool) → T (both a b) → T a
both_left true b t = tt
both_left false b t = t

pub both_right : (a b : Bool) → T (both a b) → T b
both_right true b t = t
both_right false b t = absurd t

-- the test f passes at each entry of the list and its place, counted from i
abbrev pub every : (ℕ → ℕ → Bool) → ℕ → List ℕ → Bool
every f i [] = true
every f i (x ∷ xs) = both (f i x) (every f (suc i) xs)

from : (f : ℕ → ℕ → Bool) (xs : List ℕ) (i : ℕ) → T (every f i xs) → (k : ℕ) → k < length xs → T (f (i + k) (get_or xs k 0))
from f [] i t k h = absurd (not-suc-le-zero h)
from f (x ∷ xs) i t zero h = subst (λ (m : ℕ). T (f m x)) (sym (add-zero i)) (both_left (f i x) (every f (suc i) xs) t)
from f (x ∷ xs) i t (suc k) h =
    subst (λ (m : ℕ). T (f m (get_or xs k 0))) (suc-add i k ∙ sym (add-suc i k))
    (from f xs (suc i) (both_right (f i x) (every f (suc i) xs) t) k (le_of_suc-le-suc h))

pub at : (f : ℕ → ℕ → Bool) (xs : List ℕ) → T (every f 0 xs) → (k : ℕ) → k < length xs → T (f k (get_or xs k 0))
at f xs t k h = subst (λ (m : ℕ). T (f m (get_or xs k 0))) (zero-add k) (from f xs 0 t k h)

-- x stands in the list; then it passes what each entry passes
unfoldable pub member : ℕ → List ℕ → Bool
member x [] = false
member x (y ∷ ys) = eqb x y || member x ys

pub every_member : (f : ℕ → Bool) (l : List ℕ) (i : ℕ) → T (every (λ i. f) i l) → (x : ℕ) → T (member x l) → T (f x)
unfolding member
every_member f [] i t x h = absurd h
every_member f (y ∷ ys) i t x h = by (eqb x y) refl h (every_member f ys (suc i) (both_right (f y) (every (λ i. f) (suc i) ys) t) x)
  where
    by : (b : Bool) → eqb x y ≡ b → T (b || member x ys) → (T (member x ys) → T (f x)) → T (f x)
    by true e h later =
        let q : x ≡ y = eqb-true x y e in
        rw q (both_left (f y) (every (λ i. f) (suc i) ys) t)
    by false e h later = later h

pub member_front : (x : ℕ) (l m : List ℕ) → T (member x l) → T (member x (l ++ m))
unfolding member
member_front x [] m h = absurd h
member_front x (y ∷ ys) m h = by (eqb x y) h (member_front x ys m)
  where
    by : (b : Bool) → T (b || member x ys) → (T (member x ys) → T (member x (ys ++ m))) → T (b || member x (ys ++ m))
    by true h later = tt
    by false h later = later h

-- f holds at 0, 1, .., n - 1
abbrev pub all : ℕ → (ℕ → Bool) → Bool
all zero f = true
all (suc n) f = both (f n) (all n f)

pub all_at : (n : ℕ) (f : ℕ → Bool) → T (all n f) → (i : ℕ) → i < n → T (f i)
all_at zero f t i h = absurd (not-suc-le-zero h)
all_at (suc n) f t i h = go (all_at n f (both_right (f n) (all n f) t) i) (ℕ_discrete i n)
  where
    go : (i < n → T (f i)) → Dec (i ≡ n) → T (f i)
    go ih (yes e) = rw e (both_left (f n) (all n f) t)
    go ih (no e) = ih (lt_of_le-ne (le_of_suc-le-suc h) e)

-- What both have, the one that a test picks has.
pub either_has : {A : Type 0} (Q : A → Type 0) (t : Bool) (x y : A) → Q x → Q y → Q (cond t x y)
either_has Q true x y p q = p
either_has Q false x y p q = q
