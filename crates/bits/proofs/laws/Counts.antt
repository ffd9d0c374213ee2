-- Laws, not definitions: the numbers below a bound that pass a test, how many they are, and where each stands in their list.
-- Assumes nothing.
use mathlib.Core.Bool.{Bool, true, false, cond}
use mathlib.Core.List.{[], ◌∷◌, ◌++◌}
use mathlib.Core.Path.{◌≡◌, refl, sym, ap, ap₂, ◌∙◌}
use Prim.Native.Nat.{ℕ, zero, suc, ◌+◌, ◌*◌, ◌<◌, ◌≤◌}
use native.Mathlib.Decide.{dec_lt}
use native.Mathlib.Nat.{add-zero, add-suc, add_assoc, zero-mul, suc-mul}
use native.Mathlib.Omega.{arith}
use lib.ListN.{length, length-append, get_or-append}
use lib.Seq.{get_or-append-add}
use Rattle.bits.specs.Counts.{chosen, sum_below}
use Rattle.bits.specs.Lists.{at}

-- ---- how many pass
unfoldable pub counted : (ℕ → Bool) → ℕ → ℕ
counted f zero = 0
counted f (suc n) = counted f n + cond (f n) 1 0

length_one : (b : Bool) (n : ℕ) → length (cond b (n ∷ []) []) ≡ cond b 1 0
length_one true n = refl
length_one false n = refl

pub length_chosen : (f : ℕ → Bool) (n : ℕ) → length (chosen f n) ≡ counted f n
unfolding chosen counted
length_chosen f zero = refl
length_chosen f (suc n) =
    length-append (chosen f n) (cond (f n) (n ∷ []) []) ∙ ap₂ (λ (x y : ℕ). x + y) (length_chosen f n) (length_one (f n) n)

pub counted_same : (f g : ℕ → Bool) (n : ℕ) → ((i : ℕ) → i < n → f i ≡ g i) → counted f n ≡ counted g n
unfolding counted
counted_same f g zero e = refl
counted_same f g (suc n) e =
    ap₂ (λ (x : ℕ) (b : Bool). x + cond b 1 0) (counted_same f g n (λ i h. e i (omega arith))) (e n (omega arith))

counted_add : (f : ℕ → Bool) (a b : ℕ) → counted f (a + b) ≡ counted f a + counted (λ i. f (a + i)) b
unfolding counted
counted_add f a zero = ap (counted f) (add-zero a) ∙ sym (add-zero (counted f a))
counted_add f a (suc b) =
    ap (counted f) (add-suc a b)
    ∙ ap (λ (x : ℕ). x + cond (f (a + b)) 1 0) (counted_add f a b)
    ∙ add_assoc (counted f a) (counted (λ i. f (a + i)) b) (cond (f (a + b)) 1 0)

pub sum_same : (n : ℕ) (f g : ℕ → ℕ) → ((i : ℕ) → i < n → f i ≡ g i) → sum_below n f ≡ sum_below n g
unfolding sum_below
sum_same zero f g e = refl
sum_same (suc n) f g e = ap₂ (λ (x y : ℕ). x + y) (sum_same n f g (λ i h. e i (omega arith))) (e n (omega arith))

-- In runs of w numbers: those of the first m runs, and those of the first y numbers of the next.
counted_runs : (f : ℕ → Bool) (w m : ℕ) → counted f (m * w) ≡ sum_below m (λ r. counted (λ x. f (r * w + x)) w)
unfolding sum_below counted
counted_runs f w zero = ap (counted f) (zero-mul w)
counted_runs f w (suc m) =
    ap (counted f) (suc-mul m w)
    ∙ counted_add f (m * w) w
    ∙ ap (λ (x : ℕ). x + counted (λ i. f (m * w + i)) w) (counted_runs f w m)

pub counted_upto : (f : ℕ → Bool) (w m y : ℕ)
    → counted f (m * w + y) ≡ sum_below m (λ r. counted (λ x. f (r * w + x)) w) + counted (λ x. f (m * w + x)) y
counted_upto f w m y =
    counted_add f (m * w) y ∙ ap (λ (x : ℕ). x + counted (λ i. f (m * w + i)) y) (counted_runs f w m)

-- ---- where they stand
counted_le : (f : ℕ → Bool) (v n : ℕ) → v ≤ n → counted f v ≤ counted f n
unfolding counted
counted_le f v zero h = omega (arith, ap (counted f) (let e : v ≡ 0 = omega arith in e))
counted_le f v (suc n) h = elim (dec_lt v (suc n)) [
  | yes l ↦ omega (arith, counted_le f v n (omega arith))
  | no l ↦ omega (arith, ap (counted f) (let e : v ≡ suc n = omega arith in e))
]

-- A number that passes has fewer before it than there are below anything higher.
pub counted_lt : (f : ℕ → Bool) (v n : ℕ) → f v ≡ true → v < n → counted f v < counted f n
unfolding counted
counted_lt f v n e h =
    let one : counted f (suc v) ≡ counted f v + 1 = ap (λ (b : Bool). counted f v + cond b 1 0) e in
    omega (arith, counted_le f (suc v) n h)

-- The number v passes, is below n, and p numbers before it pass.
pub record Stands (f : ℕ → Bool) (n p v : ℕ) : Type 0 where
  pub below : v < n
  pub passes : f v ≡ true
  pub rank : counted f v ≡ p

last_one : (f : ℕ → Bool) (v : ℕ) → f v ≡ true → at (chosen f v ++ cond (f v) (v ∷ []) []) (counted f v) ≡ v
last_one f v e =
    ap (λ (b : Bool). at (chosen f v ++ cond b (v ∷ []) []) (counted f v)) e
    ∙ ap (at (chosen f v ++ (v ∷ []))) (sym (length_chosen f v) ∙ sym (add-zero (length (chosen f v))))
    ∙ get_or-append-add (chosen f v) (v ∷ []) 0 0

at_counted : (f : ℕ → Bool) (n v : ℕ) → v < n → f v ≡ true → at (chosen f n) (counted f v) ≡ v
unfolding chosen
at_counted f zero v h e = absurd (omega arith)
at_counted f (suc n) v h e = elim (dec_lt v n) [
  | yes l ↦
      get_or-append (chosen f n) (cond (f n) (n ∷ []) []) 0 (counted f v) (omega (arith, length_chosen f n, counted_lt f v n e l))
      ∙ at_counted f n v l e
  | no l ↦
      let q : n ≡ v = omega arith in
      ap (λ (x : ℕ). at (chosen f x ++ cond (f x) (x ∷ []) []) (counted f v)) q ∙ last_one f v e
]

-- Then it is the element at p.
pub stands_at : {f : ℕ → Bool} {n p v : ℕ} → Stands f n p v → at (chosen f n) p ≡ v
stands_at {f} {n} {p} {v} S = ap (at (chosen f n)) (sym S.rank) ∙ at_counted f n v S.below S.passes

-- And at each place of the list stands such a number.
standing : (f : ℕ → Bool) (n p : ℕ) → p < counted f n → (v : ℕ) × Stands f n p v
unfolding counted
standing f zero p h = absurd (omega arith)
standing f (suc n) p h = elim (dec_lt p (counted f n)) [
  | yes l ↦ let S = standing f n p l in (S.0, record { below = omega (arith, S.1.below); passes = S.1.passes; rank = S.1.rank })
  | no l ↦ here (f n) refl (omega arith)
]
  where
    here : (b : Bool) → f n ≡ b → counted f n ≤ p → (v : ℕ) × Stands f (suc n) p v
    here true e l =
        let z : counted f n + cond (f n) 1 0 ≡ counted f n + 1 = ap (λ (b : Bool). counted f n + cond b 1 0) e in
        (n, record { below = omega arith; passes = e; rank = omega arith })
    here false e l =
        let z : counted f n + cond (f n) 1 0 ≡ counted f n + 0 = ap (λ (b : Bool). counted f n + cond b 1 0) e in
        absurd (omega arith)

pub at_stands : (f : ℕ → Bool) (n p : ℕ) → p < length (chosen f n) → Stands f n p (at (chosen f n) p)
at_stands f n p h =
    let S = standing f n p (omega (arith, length_chosen f n)) in
    rw (stands_at S.1) S.1
