-- Laws, not definitions: what the functions of the elimination do to the work area, row by row and column by column.
-- Assumes nothing.
use mathlib.Core.List.{List}
use mathlib.Core.Logic.{◌≢◌}
use mathlib.Core.Path.{◌≡◌, refl, sym, ap, ap₂, ◌∙◌, subst}
use Prim.Native.Nat.{ℕ, zero, suc, ◌+◌, ◌-◌, ◌*◌, ◌/◌, ◌%◌, ◌^◌, ◌≤◌, ◌<◌}
use native.Mathlib.Decide.{ℕ_discrete}
use native.Mathlib.Nat.{zero-mul, one-mul}
use native.Mathlib.Numerals.{add-one}
use native.Mathlib.Omega.{arith}
use lib.Bits.{bit_xor, xor_zero_r}
use Rattle.bits.specs.Lists.{at, tabulate}
use Rattle.bits.specs.Vectors.{bit, delta}
use Rattle.bits.proofs.laws.Lists.{tabulate_ext, at_tabulate}
use Rattle.bits.proofs.laws.Vectors.{delta_same, delta_other, bit_lt, bit_shift}
use Rattle.inversion.specs.Elimination.{add_row, pivot_by, clear_by, left_step, right_step, pivoted, choose, pivot_from}
use Rattle.inversion.specs.Elimination.{Inversion, inverse, singular, unless_zero, columns}
use Rattle.inversion.proofs.laws.Elimination.{clear_by_lt}
use Rattle.inversion.proofs.laws.Rows.{Replaced}

-- ---- c times row s added to row i
pub record Added (f : ℕ → ℕ) (i s c : ℕ) (g : ℕ → ℕ) : Type 0 where
  pub here : g i ≡ bit_xor (f i) (c * f s)
  pub others : (j : ℕ) → j ≢ i → g j ≡ f j

-- ---- a step row by row: the rows below i are done
pub stays : (c : ℕ → ℕ) (s : ℕ) (f : ℕ → ℕ) (i : ℕ) → c i ≡ 0 → add_row c s f i ≡ f i
unfolding add_row
stays c s f i e = ap (λ (x : ℕ). bit_xor (f i) (x * f s)) e ∙ ap (bit_xor (f i)) (zero-mul (f s)) ∙ xor_zero_r (f i)

pub record Swept (c : ℕ → ℕ) (s : ℕ) (f : ℕ → ℕ) (i : ℕ) (g : ℕ → ℕ) : Type 0 where
  pub done : (j : ℕ) → j < i → g j ≡ add_row c s f j
  pub left : (j : ℕ) → i ≤ j → g j ≡ f j

pub swept_none : (c : ℕ → ℕ) (s : ℕ) (f : ℕ → ℕ) → Swept c s f 0 f
swept_none c s f = record { done = λ j h. absurd (omega arith); left = λ j h. refl }

-- Row i is done, and no other is changed.
pub swept_one : (c : ℕ → ℕ) (s : ℕ) (f : ℕ → ℕ) (i : ℕ) (g g' : ℕ → ℕ) → Swept c s f i g → g' i ≡ add_row c s f i
    → ((j : ℕ) → j ≢ i → g' j ≡ g j) → Swept c s f (i + 1) g'
swept_one c s f i g g' S here others = record {
  done = λ j h. elim (ℕ_discrete i j) [
    | yes q ↦ subst (λ (j : ℕ). g' j ≡ add_row c s f j) q here
    | no q ↦ others j (omega arith) ∙ S.done j (omega arith)
  ];
  left = λ j h. others j (omega arith) ∙ S.left j (omega arith);
}

-- ---- the coefficients, as the code has them: b is bit k of x, which is row i
pub digit_of_row : (n k : ℕ) (f : ℕ → ℕ) (i x b : ℕ) → x ≡ f i → b ≡ x / 2 ^ (n - 1 - k) % 2 → b ≡ bit n k (f i)
digit_of_row n k f i x b row digit =
    let place : n - 1 - k ≡ n - suc k = omega arith in
    digit ∙ ap₂ (λ (y z : ℕ). y / 2 ^ z % 2) row place ∙ sym (bit_shift n k (f i))

pub clear_by_bit : (n k : ℕ) (f : ℕ → ℕ) (i : ℕ) → i ≢ k → bit n k (f i) ≡ clear_by n k f i
unfolding clear_by
clear_by_bit n k f i h = sym (ap (λ (z : ℕ). (1 - z) * bit n k (f i)) (delta_other i k h) ∙ one-mul (bit n k (f i)))

pub clear_by_other : (n k : ℕ) (f : ℕ → ℕ) (i x b : ℕ) → i ≢ k → x ≡ f i → b ≡ x / 2 ^ (n - 1 - k) % 2 → b ≡ clear_by n k f i
clear_by_other n k f i x b h row digit = digit_of_row n k f i x b row digit ∙ clear_by_bit n k f i h

pub coefficient_small : (n k : ℕ) (f : ℕ → ℕ) (i x : ℕ) → x ≡ clear_by n k f i → x < 2
coefficient_small n k f i x e = rw e (clear_by_lt n k f i)

-- Only the row's own bit counts.
pub clear_by_row : (n k : ℕ) (f g : ℕ → ℕ) (i : ℕ) → f i ≡ g i → clear_by n k f i ≡ clear_by n k g i
unfolding clear_by
clear_by_row n k f g i e = ap (λ (x : ℕ). (1 - delta i k) * bit n k x) e

-- Row k gets the row that is added where it lacks bit k; no other row gets it.
pub pivot_by_own : (n k : ℕ) (f : ℕ → ℕ) (b : ℕ) → b ≡ bit n k (f k) → 1 - b ≡ pivot_by n k f k
unfolding pivot_by
pivot_by_own n k f b e =
    let lacks = 1 - bit n k (f k) in
    ap (λ (x : ℕ). 1 - x) e ∙ sym (ap (λ (x : ℕ). x * lacks) (delta_same k) ∙ one-mul lacks)

pub pivot_by_other : (n k : ℕ) (f : ℕ → ℕ) (i : ℕ) → i ≢ k → pivot_by n k f i ≡ 0
unfolding pivot_by
pivot_by_other n k f i h =
    let lacks = 1 - bit n k (f k) in
    ap (λ (x : ℕ). x * lacks) (delta_other i k h) ∙ zero-mul lacks

-- Row k with its coefficient, and the others as they were.
pub pivot_rows : (n k p : ℕ) (f g g' : ℕ → ℕ) (b : ℕ) → b ≡ bit n k (f k) → Added g k p (1 - b) g' → (i : ℕ) → i < n
    → g' i ≡ add_row (pivot_by n k f) p g i
unfolding add_row
pivot_rows n k p f g g' b e A i l = elim (ℕ_discrete k i) [
  | yes q ↦
      subst (λ (i : ℕ). g' i ≡ add_row (pivot_by n k f) p g i) q
      (A.here ∙ ap (λ (x : ℕ). bit_xor (g k) (x * g p)) (pivot_by_own n k f b e))
  | no q ↦
      let other : i ≢ k = λ r. q (sym r) in
      A.others i other ∙ sym (stays (pivot_by n k f) p g i (pivot_by_other n k f i other))
]

-- ---- the search for a pivot, one row on
step_one : (n k : ℕ) (f : ℕ → ℕ) (i : ℕ) → i < n → pivot_from n k f (n - i) i ≡ choose (bit n k (f i)) i (pivot_from n k f (n - suc i) (suc i))
unfolding pivot_from
step_one n k f i h = ap (λ (d : ℕ). pivot_from n k f d i) (let e : n - i ≡ suc (n - suc i) = omega arith in e)

pub pivot_here : (n k : ℕ) (f : ℕ → ℕ) (i b : ℕ) → i < n → b ≡ bit n k (f i) → b ≡ 1 → i ≡ pivot_from n k f (n - i) i
pivot_here n k f i b h e q =
    sym (step_one n k f i h ∙ ap (λ (x : ℕ). choose x i (pivot_from n k f (n - suc i) (suc i))) (sym e ∙ q))

pub pivot_on : (n k : ℕ) (f : ℕ → ℕ) (i b : ℕ) → i < n → b ≡ bit n k (f i) → b ≢ 1
    → pivot_from n k f (n - i) i ≡ pivot_from n k f (n - (i + 1)) (i + 1)
pivot_on n k f i b h e q =
    let z : bit n k (f i) ≡ 0 = omega (arith, e, bit_lt n k (f i)) in
    step_one n k f i h ∙ ap (λ (x : ℕ). choose x i (pivot_from n k f (n - suc i) (suc i))) z
    ∙ ap (λ (x : ℕ). pivot_from n k f (n - x) x) (sym (add-one i))

pub pivot_end : (n k : ℕ) (f : ℕ → ℕ) (i : ℕ) → i ≡ n → n ≡ pivot_from n k f (n - i) i
unfolding pivot_from
pivot_end n k f i e = sym (ap (λ (d : ℕ). pivot_from n k f d i) (let z : n - i ≡ 0 = omega arith in z) ∙ e)

-- Only the rows that are looked at count.
pub pivot_same : (n k : ℕ) (f g : ℕ → ℕ) (d i : ℕ) → ((j : ℕ) → i ≤ j → j < i + d → f j ≡ g j) → pivot_from n k f d i ≡ pivot_from n k g d i
unfolding pivot_from
pivot_same n k f g zero i e = refl
pivot_same n k f g (suc d) i e =
    ap₂ (λ (x y : ℕ). choose (bit n k x) i y) (e i (omega arith) (omega arith))
    (pivot_same n k f g d (suc i) (λ j l h. e j (omega arith) (omega arith)))

-- ---- a step on one side
-- The pivoting: x is row k, b its bit k on the left, q row p, and x is replaced by y.
pub side_pivoted : (n k p : ℕ) (e f f₁ : ℕ → ℕ) (b x q y : ℕ) → b ≡ bit n k (e k) → x ≡ f k → q ≡ f p → y ≡ bit_xor x ((1 - b) % 2 * q)
    → Replaced f k y f₁
    → tabulate n f₁ ≡ tabulate n (add_row (pivot_by n k e) p f)
side_pivoted n k p e f f₁ b x q y has row other added put =
    let lacks : (1 - b) % 2 ≡ 1 - b = omega arith in
    tabulate_ext n _ _ (pivot_rows n k p e f f₁ b has (record {
      here = put.here ∙ added ∙ ap₂ (λ (u v : ℕ). bit_xor u v) row (ap₂ (λ (u v : ℕ). u * v) lacks other);
      others = put.others;
    }))

-- ---- one column of the elimination of a beside b, whose pivot is in row p; n where it has none
module _ (n k : ℕ) (hk : k < n) (a b : List ℕ) (p : ℕ) (e : pivot_from n k (at a) (n - k) k ≡ p) where
  -- The columns from number j on, behind the step of this one with the pivot in row q.
  rest : ℕ → ℕ → Inversion
  rest j q = columns n (n - j) j (tabulate n (left_step n k q (at a))) (tabulate n (right_step n k q (at a) (at b)))

  one_column : columns n (n - k) k a b ≡ unless_zero (n - p) (rest (suc k) p)
  unfolding columns rest
  one_column =
      let more : n - k ≡ suc (n - suc k) = omega arith in
      ap (λ (d : ℕ). columns n d k a b) more ∙ ap (λ (q : ℕ). unless_zero (n - q) (rest (suc k) q)) e

  pub columns_none : p ≡ n → columns n (n - k) k a b ≡ singular
  columns_none q =
      let none : n - p ≡ 0 = omega arith in
      one_column ∙ ap (λ (x : ℕ). unless_zero x (rest (suc k) p)) none

  pub columns_next : p < n
      → columns n (n - k) k a b
      ≡ columns n (n - (k + 1)) (k + 1) (tabulate n (left_step n k p (at a))) (tabulate n (right_step n k p (at a) (at b)))
  unfolding rest
  columns_next h =
      let some : n - p ≡ suc (n - suc p) = omega arith in
      one_column ∙ ap (λ (x : ℕ). unless_zero x (rest (suc k) p)) some ∙ ap (λ (j : ℕ). rest j p) (sym (add-one k))

-- ---- the same of a work area, whose rows are f on the left and g on the right
-- Only the first n rows count in a step.
step_same : (n : ℕ) (c c' : ℕ → ℕ) (s : ℕ) (f g : ℕ → ℕ) → s < n → ((i : ℕ) → i < n → c i ≡ c' i) → ((i : ℕ) → i < n → f i ≡ g i)
    → tabulate n (add_row c s f) ≡ tabulate n (add_row c' s g)
unfolding add_row
step_same n c c' s f g hs e p =
    tabulate_ext n (add_row c s f) (add_row c' s g) (λ i h. ap₂ bit_xor (p i h) (ap₂ (λ (x y : ℕ). x * y) (e i h) (p s hs)))

module _ (n k : ℕ) (hk : k < n) (f g : ℕ → ℕ) where
  a : List ℕ
  a = tabulate n f

  b : List ℕ
  b = tabulate n g

  at_a : (i : ℕ) → i < n → at a i ≡ f i
  unfolding a
  at_a i h = at_tabulate n f i h

  at_b : (i : ℕ) → i < n → at b i ≡ g i
  unfolding b
  at_b i h = at_tabulate n g i h

  found_same : (p : ℕ) → p ≡ pivot_from n k f (n - k) k → pivot_from n k (at a) (n - k) k ≡ p
  found_same p e = pivot_same n k (at a) f (n - k) k (λ j l h. at_a j (omega arith)) ∙ sym e

  pub column_none : (p : ℕ) → p ≡ pivot_from n k f (n - k) k → p ≡ n → columns n (n - k) k (tabulate n f) (tabulate n g) ≡ singular
  unfolding a b
  column_none p e q = columns_none n k hk a b p (found_same p e) q

  -- f₁ and g₁ are the rows behind the pivoting, f₂ and g₂ behind the clearing.
  pub column_next : (p : ℕ) (f₁ g₁ f₂ g₂ : ℕ → ℕ) → p ≡ pivot_from n k f (n - k) k → p < n
      → tabulate n f₁ ≡ tabulate n (add_row (pivot_by n k f) p f)
      → tabulate n g₁ ≡ tabulate n (add_row (pivot_by n k f) p g)
      → tabulate n f₂ ≡ tabulate n (add_row (clear_by n k f₁) k f₁)
      → tabulate n g₂ ≡ tabulate n (add_row (clear_by n k f₁) k g₁)
      → columns n (n - k) k (tabulate n f) (tabulate n g) ≡ columns n (n - (k + 1)) (k + 1) (tabulate n f₂) (tabulate n g₂)
  unfolding a b
  column_next p f₁ g₁ f₂ g₂ e hp l₁ r₁ l₂ r₂ =
      columns_next n k hk a b p (found_same p e) hp
      ∙ ap₂ (λ (u v : List ℕ). columns n (n - (k + 1)) (k + 1) u v)
      (sym (l₂ ∙ step_same n _ _ k _ _ hk clears lefts_same))
      (sym (r₂ ∙ step_same n _ _ k _ _ hk clears rights_same))
    where
      pivots : (i : ℕ) → i < n → pivot_by n k f i ≡ pivot_by n k (at a) i
      pivots i h = unfold pivot_by in ap (λ (x : ℕ). delta i k * (1 - bit n k x)) (sym (at_a k hk))

      lefts_same : (i : ℕ) → i < n → f₁ i ≡ pivoted n k p (at a) i
      lefts_same i h =
          sym (at_tabulate n f₁ i h)
          ∙ ap (λ (l : List ℕ). at l i) (l₁ ∙ step_same n _ _ p _ _ hp pivots (λ j g. sym (at_a j g)))
          ∙ at_tabulate n (pivoted n k p (at a)) i h

      rights_same : (i : ℕ) → i < n → g₁ i ≡ add_row (pivot_by n k (at a)) p (at b) i
      rights_same i h =
          sym (at_tabulate n g₁ i h)
          ∙ ap (λ (l : List ℕ). at l i) (r₁ ∙ step_same n _ _ p _ _ hp pivots (λ j g. sym (at_b j g)))
          ∙ at_tabulate n (add_row (pivot_by n k (at a)) p (at b)) i h

      clears : (i : ℕ) → i < n → clear_by n k f₁ i ≡ clear_by n k (pivoted n k p (at a)) i
      clears i h = clear_by_row n k f₁ (pivoted n k p (at a)) i (lefts_same i h)

pub columns_done : (n k : ℕ) (u v : List ℕ) → k ≡ n → columns n (n - k) k u v ≡ inverse v
unfolding columns
columns_done n k u v e = ap (λ (d : ℕ). columns n d k u v) (let z : n - k ≡ 0 = omega arith in z)
