-- Laws, not definitions: the loops of the elimination, over lists of rows of any kind. Each has an invariant over the rows, with a law for a turn and its ends, and
-- for its start where that is no record of plain facts; m₀ is the list at the start, m what it has become, l the number of a row and r that of the row of the
-- future inverse beside it. At the end, what `invert` puts together.
-- Assumes nothing.
use mathlib.Core.Bool.{Bool, true, false}
use mathlib.Core.List.{List}
use mathlib.Core.Logic.{◌≢◌}
use mathlib.Core.Path.{◌≡◌, refl, sym, ap, ap₂, ◌∙◌, subst}
use Prim.Native.Nat.{ℕ, zero, suc, ◌+◌, ◌-◌, ◌*◌, ◌/◌, ◌%◌, ◌^◌, ◌≤◌, ◌<◌}
use native.Mathlib.Decide.{ℕ_discrete}
use native.Mathlib.Nat.{mod-eq_of_lt}
use native.Mathlib.Omega.{arith}
use lib.Bits.{bit_xor}
use lib.ListN.{length, get_or, set, length-set}
use Rattle.std.specs.Prelude.{Some, None}
use Rattle.std.proofs.lemmas.Option.{none-some, same_Some}
use Rattle.bits.specs.Lists.{at, tabulate}
use Rattle.bits.specs.Vectors.{bit, unit}
use Rattle.bits.proofs.laws.Lists.{tabulate_ext, at_tabulate}
use Rattle.bits.proofs.laws.Vectors.{bit_lt}
use Rattle.matrices.specs.Matrices.{identity}
use Rattle.matrices.specs.Rows.{row_at, rows_of, stored}
use Rattle.matrices.proofs.laws.Rows.{stored_same}
use Rattle.inversion.specs.Elimination.{add_row, pivot_by, clear_by, pivot_from, told, pivot_in, Inversion, inverse, singular, columns, invert, has_inverse, with_inverse}
use Rattle.inversion.specs.Work.{row_in, Stepped, ended}
use Rattle.inversion.proofs.laws.Elimination.{clear_by_pivot}
use Rattle.inversion.proofs.laws.Inverses.{pivot_found}
use Rattle.inversion.proofs.laws.Rows.{Replaced, row_is, row_put}
use Rattle.inversion.proofs.laws.Work.{stays, Swept, swept_none, swept_one, clear_by_bit, digit_of_row, side_pivoted}
use Rattle.inversion.proofs.laws.Work.{pivot_here, pivot_on, pivot_end, column_none, column_next, columns_done}

-- ---- the start: the first i rows of a stand on the left, those of the identity on the right
pub record Started {R : Type 0} (l r : R → ℕ) (n : ℕ) (a : List ℕ) (m₀ m : List R) (i : ℕ) : Type 0 where
  pub within : i ≤ n
  pub long : length m ≡ length m₀
  pub left : (j : ℕ) → j < i → row_in l m j ≡ row_at a j
  pub right : (j : ℕ) → j < i → row_in r m j ≡ unit n j

-- One side: y is stored as row i.
pub side_started : (f g g' : ℕ → ℕ) (i y : ℕ) → ((j : ℕ) → j < i → g j ≡ f j) → y ≡ f i → Replaced g i y g' → (j : ℕ) → j < i + 1 → g' j ≡ f j
side_started f g g' i y before is put j h = elim (ℕ_discrete i j) [
  | yes q ↦ subst (λ (j : ℕ). g' j ≡ f j) q (put.here ∙ is)
  | no q ↦ put.others j (omega arith) ∙ before j (omega arith)
]

module _ {R : Type 0} {l r : R → ℕ} {n : ℕ} {a : List ℕ} {m₀ m : List R} {i : ℕ} (g : Started l r n a m₀ m i) where
  -- v is row i of a, and x the row that is stored.
  pub started_more : {v : ℕ} {x : R} → n ≤ length m₀ → i < n → v ≡ row_at a i → l x ≡ v → r x ≡ 2 ^ (n - 1 - i) → Started l r n a m₀ (set m i x) (i + 1)
  started_more {v} {x} room h row left right =
      let long-m = g.long in
      let place : n - 1 - i ≡ n - suc i = omega arith in
      let there : i < length m = omega arith in
      record {
        within = omega arith;
        long = length-set m i x ∙ long-m;
        left = side_started (row_at a) _ _ i (l x) g.left (left ∙ row) (row_put l m i x there);
        right = side_started (unit n) _ _ i (r x) g.right (right ∙ ap (λ (z : ℕ). 2 ^ z) place) (row_put r m i x there);
      }

  pub started_all : n ≤ i → (tabulate n (row_in l m) ≡ rows_of n a) × (tabulate n (row_in r m) ≡ identity n)
  unfolding rows_of identity
  started_all h = (tabulate_ext n _ _ (λ j k. g.left j (omega arith)), tabulate_ext n _ _ (λ j k. g.right j (omega arith)))

-- ---- the search for a pivot among the rows f 0, f 1, ..: of those from k on, none before row i has bit k
pub record Sought (n k : ℕ) (f : ℕ → ℕ) (i : ℕ) : Type 0 where
  pub behind : k ≤ i
  pub within : i ≤ n
  pub same : pivot_from n k f (n - k) k ≡ pivot_from n k f (n - i) i

module _ {n k : ℕ} {f : ℕ → ℕ} {i : ℕ} (g : Sought n k f i) where
  -- b is bit k of x, which is row i.
  pub sought_here : {x b : ℕ} → i < n → x ≡ f i → b ≡ x / 2 ^ (n - 1 - k) % 2 → b ≡ 1 → i ≡ pivot_from n k f (n - k) k
  sought_here {x} {b} h row digit one = pivot_here n k f i b h (digit_of_row n k f i x b row digit) one ∙ sym g.same

  pub sought_more : {x b : ℕ} → i < n → x ≡ f i → b ≡ x / 2 ^ (n - 1 - k) % 2 → b ≢ 1 → Sought n k f (i + 1)
  sought_more {x} {b} h row digit other =
      let passed = pivot_on n k f i b h (digit_of_row n k f i x b row digit) other in
      let from = g.behind in
      record { behind = omega arith; within = omega arith; same = g.same ∙ passed }

  pub sought_all : n ≤ i → pivot_from n k f (n - k) k ≡ n
  sought_all h =
      let upto = g.within in
      g.same ∙ sym (pivot_end n k f i (omega arith))

-- What it tells: the row, if that is one of the n, else none; and what a caller learns from either.
told_here : (d p : ℕ) → 0 < d → told d p ≡ Some p
told_here zero p h = absurd (omega arith)
told_here (suc d) p h = refl

told_some : (d q p : ℕ) → told d q ≡ Some p → (p ≡ q) × (0 < d)
told_some zero q p e = absurd (none-some p e)
told_some (suc d) q p e = (sym (same_Some q p e), omega arith)

told_none : (d q : ℕ) → told d q ≡ None → d ≡ 0
told_none zero q e = refl
told_none (suc d) q e = absurd (none-some q (sym e))

module _ (n k : ℕ) (f : ℕ → ℕ) where
  pub pivot_told : {p : ℕ} → p ≡ pivot_from n k f (n - k) k → p < n → Some p ≡ pivot_in n k f
  unfolding pivot_in
  pivot_told {p} e h = sym (subst (λ (q : ℕ). told (n - q) q ≡ Some p) e (told_here (n - p) p (omega arith)))

  pub none_told : pivot_from n k f (n - k) k ≡ n → None ≡ pivot_in n k f
  unfolding pivot_in
  none_told e =
      let none_left : n - pivot_from n k f (n - k) k ≡ 0 = omega (arith, e) in
      sym (ap (λ (d : ℕ). told d (pivot_from n k f (n - k) k)) none_left)

  pub pivot_given : {p : ℕ} → Some p ≡ pivot_in n k f → (p ≡ pivot_from n k f (n - k) k) × (p < n)
  unfolding pivot_in
  pivot_given {p} e =
      let given = told_some (n - pivot_from n k f (n - k) k) (pivot_from n k f (n - k) k) p (sym e) in
      (given.0, omega (arith, given.0, given.1))

  pub none_given : k < n → None ≡ pivot_in n k f → pivot_from n k f (n - k) k ≡ n
  unfolding pivot_in
  none_given h e =
      let found = pivot_found n k f (n - k) k (omega arith) in
      omega (arith, found.upto, told_none (n - pivot_from n k f (n - k) k) (pivot_from n k f (n - k) k) (sym e))

-- ---- the clearing of column k: `top`, which is row k of m₀, has been added to those of the first i rows that have bit k, row k too
-- Bit k of row i, of every row.
abbrev has : {R : Type 0} → (R → ℕ) → ℕ → ℕ → List R → ℕ → ℕ
has l n k m i = bit n k (row_in l m i)

pub record Cleared {R : Type 0} (l r : R → ℕ) (n k : ℕ) (m₀ : List R) (top : R) (m : List R) (i : ℕ) : Type 0 where
  pub within : i ≤ n
  pub long : length m ≡ length m₀
  pub top_left : l top ≡ row_in l m₀ k
  pub top_right : r top ≡ row_in r m₀ k
  pub left : Swept (has l n k m₀) k (row_in l m₀) i (row_in l m)
  pub right : Swept (has l n k m₀) k (row_in r m₀) i (row_in r m)

pub cleared_none : {R : Type 0} {l r : R → ℕ} {n k : ℕ} {m : List R} {top : R} → k < length m → top ≡ get_or m k top → Cleared l r n k m top m 0
cleared_none {R} {l} {r} {n} {k} {m} {top} h e = record {
  within = omega arith;
  long = refl;
  top_left = row_is l m k top h e;
  top_right = row_is r m k top h e;
  left = swept_none (has l n k m) k (row_in l m);
  right = swept_none (has l n k m) k (row_in r m);
}

-- One side: row x, with t added where b, is replaced by y.
side_more : (c : ℕ → ℕ) (k : ℕ) (f : ℕ → ℕ) (i b t x y : ℕ) (g g' : ℕ → ℕ) → Swept c k f i g → b % 2 ≡ c i → t ≡ f k → x ≡ g i
    → y ≡ bit_xor x (b % 2 * t) → Replaced g i y g'
    → Swept c k f (i + 1) g'
unfolding add_row
side_more c k f i b t x y g g' S is top row added put =
    swept_one c k f i g g' S
    (put.here ∙ added ∙ ap₂ (λ (u v : ℕ). bit_xor u v) (row ∙ S.left i (omega arith)) (ap₂ (λ (u v : ℕ). u * v) is top)) put.others

-- One side at the end, with row k put back: that is the step which leaves row k alone.
side_all : (n k : ℕ) (e f : ℕ → ℕ) (i t : ℕ) (g g' : ℕ → ℕ) → Swept (λ j. bit n k (e j)) k f i g → n ≤ i → t ≡ f k → Replaced g k t g'
    → tabulate n g' ≡ tabulate n (add_row (clear_by n k e) k f)
unfolding add_row
side_all n k e f i t g g' S h top put = tabulate_ext n _ _ (λ j l. elim (ℕ_discrete k j) [
  | yes q ↦
      subst (λ (j : ℕ). g' j ≡ add_row (clear_by n k e) k f j) q (put.here ∙ top ∙ sym (stays (clear_by n k e) k f k (clear_by_pivot n k e)))
  | no q ↦
      let other : j ≢ k = omega arith in
      put.others j other ∙ S.done j (omega arith) ∙ ap (λ (c : ℕ). bit_xor (f j) (c * f k)) (clear_by_bit n k e j other)
])

module _ {R : Type 0} {l r : R → ℕ} {n k : ℕ} {m₀ : List R} {top : R} {m : List R} {i : ℕ} (g : Cleared l r n k m₀ top m i) where
  -- x is row i, b its bit k, and y the row that is stored.
  pub cleared_more : {x y : R} {b : ℕ} → n ≤ length m₀ → i < n → x ≡ get_or m i x → b ≡ l x / 2 ^ (n - 1 - k) % 2
      → l y ≡ bit_xor (l x) (b % 2 * l top) → r y ≡ bit_xor (r x) (b % 2 * r top)
      → Cleared l r n k m₀ top (set m i y) (i + 1)
  cleared_more {x} {y} {b} room h row digit on_left on_right =
      let long-m = g.long in
      let there : i < length m = omega arith in
      let same : l x ≡ row_in l m₀ i = row_is l m i x there row ∙ g.left.left i (omega arith) in
      let is : b ≡ has l n k m₀ i = digit_of_row n k (row_in l m₀) i (l x) b same digit in
      let small : b % 2 ≡ has l n k m₀ i = mod-eq_of_lt (subst (λ (z : ℕ). z < 2) (sym is) (bit_lt n k (row_in l m₀ i))) ∙ is in
      record {
        within = omega arith;
        long = length-set m i y ∙ long-m;
        top_left = g.top_left;
        top_right = g.top_right;
        left = side_more _ k _ i b (l top) (l x) (l y) _ _ g.left small g.top_left (row_is l m i x there row) on_left (row_put l m i y there);
        right = side_more _ k _ i b (r top) (r x) (r y) _ _ g.right small g.top_right (row_is r m i x there row) on_right (row_put r m i y there);
      }

  -- Row k is put back.
  pub cleared_all : n ≤ length m₀ → k < n → n ≤ i
      → Stepped l r n (clear_by n k (row_in l m₀)) k m₀ (set m k top)
  cleared_all room hk h =
      let long-m = g.long in
      let there : k < length m = omega arith in
      record {
        left = side_all n k (row_in l m₀) (row_in l m₀) i (l top) _ _ g.left h g.top_left (row_put l m k top there);
        right = side_all n k (row_in l m₀) (row_in r m₀) i (r top) _ _ g.right h g.top_right (row_put r m k top there);
      }

-- ---- the pivoting of column k: x is row k, b its bit k, q row p, and y the row that is stored
pub pivot_stepped : {R : Type 0} {l r : R → ℕ} {n k p : ℕ} {m : List R} {x q : R} (y : R) {b : ℕ} → k < length m → p < length m
    → x ≡ get_or m k x → q ≡ get_or m p q → b ≡ l x / 2 ^ (n - 1 - k) % 2
    → l y ≡ bit_xor (l x) ((1 - b) % 2 * l q) → r y ≡ bit_xor (r x) ((1 - b) % 2 * r q)
    → Stepped l r n (pivot_by n k (row_in l m)) p m (set m k y)
pivot_stepped {R} {l} {r} {n} {k} {p} {m} {x} {q} y {b} hk hp row other digit on_left on_right =
    let has = digit_of_row n k (row_in l m) k (l x) b (row_is l m k x hk row) digit in
    record {
      left = side_pivoted n k p _ _ _ b (l x) (l q) (l y) has (row_is l m k x hk row) (row_is l m p q hp other) on_left (row_put l m k y hk);
      right = side_pivoted n k p _ _ _ b (r x) (r q) (r y) has (row_is r m k x hk row) (row_is r m p q hp other) on_right (row_put r m k y hk);
    }

-- ---- the columns: k of them are behind, and those left give what all would
pub record Reduced {R : Type 0} (l r : R → ℕ) (m₀ : List R) (n : ℕ) (m : List R) (k : ℕ) : Type 0 where
  pub within : k ≤ n
  pub long : length m ≡ length m₀
  pub same : columns n n 0 (tabulate n (row_in l m₀)) (tabulate n (row_in r m₀)) ≡ columns n (n - k) k (tabulate n (row_in l m)) (tabulate n (row_in r m))

pub found_within : (n k : ℕ) (f : ℕ → ℕ) (p : ℕ) → k < n → p ≡ pivot_from n k f (n - k) k → (k ≤ p) × (p ≤ n)
found_within n k f p h e =
    let found = pivot_found n k f (n - k) k (omega arith) in
    subst (λ (x : ℕ). (k ≤ x) × (x ≤ n)) (sym e) (found.from, found.upto)

module _ {R : Type 0} {l r : R → ℕ} {m₀ m : List R} {n k : ℕ} (g : Reduced l r m₀ n m k) where
  pub reduced_singular : k < n → pivot_from n k (row_in l m) (n - k) k ≡ n
      → columns n n 0 (tabulate n (row_in l m₀)) (tabulate n (row_in r m₀)) ≡ singular
  reduced_singular h e = g.same ∙ column_none n k h (row_in l m) (row_in r m) _ refl e

  -- m₁ is the list behind the pivoting, m₂ behind the clearing.
  pub reduced_next : {p : ℕ} {m₁ m₂ : List R} → k < n → p ≡ pivot_from n k (row_in l m) (n - k) k → p < n
      → Stepped l r n (pivot_by n k (row_in l m)) p m m₁
      → Stepped l r n (clear_by n k (row_in l m₁)) k m₁ m₂
      → length m₁ ≡ length m
      → length m₂ ≡ length m₁
      → Reduced l r m₀ n m₂ (k + 1)
  reduced_next {p} {m₁} {m₂} h e inside s₁ s₂ l₁ l₂ = record {
    within = omega arith;
    long = l₂ ∙ l₁ ∙ g.long;
    same = g.same ∙ column_next n k h (row_in l m) (row_in r m) p (row_in l m₁) (row_in r m₁) (row_in l m₂) (row_in r m₂) e inside s₁.left s₁.right s₂.left
        s₂.right;
  }

  pub reduced_all : n ≤ k → columns n n 0 (tabulate n (row_in l m₀)) (tabulate n (row_in r m₀)) ≡ inverse (tabulate n (row_in r m))
  reduced_all h =
      let upto = g.within in
      g.same ∙ columns_done n k _ _ (omega arith)

-- ---- the whole, as `invert` puts it together: the elimination of a work area with `rows` on the left, a, and the identity on the right, b, leaves the rows g there
module _ (n : ℕ) (rows a b : List ℕ) (g : ℕ → ℕ) (t : Bool) (l : a ≡ rows) (r : b ≡ identity n) (e : columns n n 0 a b ≡ ended t (tabulate n g)) where
  answer : invert n rows ≡ ended t (tabulate n g)
  unfolding invert
  answer = ap₂ (columns n n 0) (sym l) (sym r) ∙ e

  pub inverted : (m m' : List ℕ) → t ≡ true → m' ≡ stored n g m → (true ≡ has_inverse (invert n rows)) × (m' ≡ with_inverse n (invert n rows) m)
  inverted m m' found taken =
      let is : inverse (tabulate n g) ≡ invert n rows = sym (answer ∙ ap (λ (z : Bool). ended z (tabulate n g)) found) in
      let rows_same = stored_same n g (at (tabulate n g)) m (λ i h. sym (at_tabulate n g i h)) in
      (ap has_inverse is, taken ∙ rows_same ∙ ap (λ (z : Inversion). with_inverse n z m) is)

  pub not_inverted : (m : List ℕ) → t ≡ false → (false ≡ has_inverse (invert n rows)) × (m ≡ with_inverse n (invert n rows) m)
  not_inverted m none_found =
      let is : singular ≡ invert n rows = sym (answer ∙ ap (λ (z : Bool). ended z (tabulate n g)) none_found) in
      (ap has_inverse is, ap (λ (z : Inversion). with_inverse n z m) is)
