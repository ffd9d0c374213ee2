-- Laws, not definitions: whether a matrix has an inverse shows, from column k on, in the rows from row k on alone. The clearing of a column and the loop over the
-- columns each have an invariant over the rows, with a law for its start, a turn and its ends; f₀ is the rows at the start, f what they have become.
-- Assumes nothing.
use mathlib.Core.Bool.{true, false}
use mathlib.Core.List.{List}
use mathlib.Core.Path.{◌≡◌, refl, sym, ap, ◌∙◌, subst}
use Prim.Native.Nat.{ℕ, ◌+◌, ◌-◌, ◌*◌, ◌/◌, ◌%◌, ◌^◌, ◌≤◌, ◌<◌}
use native.Mathlib.Decide.{ℕ_discrete}
use native.Mathlib.Omega.{arith}
use lib.Bits.{bit_xor}
use Rattle.bits.specs.Lists.{at, tabulate}
use Rattle.bits.proofs.laws.Lists.{at_tabulate}
use Rattle.matrices.specs.Matrices.{identity}
use Rattle.inversion.specs.Elimination.{add_row, pivot_by, clear_by, pivoted, left_step, right_step, pivot_from, columns, invert, has_inverse}
use Rattle.inversion.proofs.laws.Loops.{found_within}
use Rattle.inversion.proofs.laws.Rows.{Replaced}
use Rattle.inversion.proofs.laws.Work.{stays, pivot_by_own, pivot_by_other, clear_by_other, coefficient_small, digit_of_row}
use Rattle.inversion.proofs.laws.Work.{pivot_same, columns_none, columns_next, columns_done}
use Rattle.invertible.specs.Forward.{ClearedBehind}

-- ---- the rows of column k as the code makes them, of the rows f with the pivot in row p
module _ (n k p : ℕ) (f : ℕ → ℕ) where
  -- Row k, where x and q are rows k and p and b is bit k of x: v is x with q added where it lacks the bit.
  row_pivoted : (x b q v : ℕ) → x ≡ f k → b ≡ x / 2 ^ (n - 1 - k) % 2 → q ≡ f p → v ≡ bit_xor x ((1 - b) % 2 * q) → v ≡ pivoted n k p f k
  unfolding add_row
  row_pivoted x b q v row digit other added =
      let small : (1 - b) % 2 ≡ 1 - b = omega arith in
      let lacks = pivot_by_own n k f b (digit_of_row n k f k x b row digit) in
      cc

  -- A row behind it, where x is row i and b its bit k: y is x with v added where it has the bit.
  row_cleared : (i x b v y : ℕ) → k < i → v ≡ pivoted n k p f k → x ≡ f i → b ≡ x / 2 ^ (n - 1 - k) % 2 → y ≡ bit_xor x (b % 2 * v)
      → y ≡ left_step n k p f i
  unfolding add_row
  row_cleared i x b v y h top row digit added =
      let other : i ≡ k → ⊥ = omega arith in
      let same : pivoted n k p f i ≡ f i = stays (pivot_by n k f) p f i (pivot_by_other n k f i other) in
      let has : b ≡ clear_by n k (pivoted n k p f) i = clear_by_other n k (pivoted n k p f) i x b other (row ∙ sym same) digit in
      let small : b % 2 ≡ b = omega (arith, coefficient_small n k (pivoted n k p f) i b has) in
      cc

  -- A step looks at the row itself and at rows k and p.
  step_rows : (g : ℕ → ℕ) (i : ℕ) → f i ≡ g i → f k ≡ g k → f p ≡ g p → left_step n k p f i ≡ left_step n k p g i
  unfolding add_row pivot_by clear_by
  step_rows g i x y z = cc

-- ---- the clearing of column k: v is row k behind the pivoting, and of the rows behind row k those before row i are done
pub record Clearing (n k p : ℕ) (f₀ : ℕ → ℕ) (v : ℕ) (f : ℕ → ℕ) (i : ℕ) : Type 0 where
  pub behind : k < i
  pub within : i ≤ n
  pub top : v ≡ pivoted n k p f₀ k
  pub done : (j : ℕ) → k < j → j < i → f j ≡ left_step n k p f₀ j
  pub left : (j : ℕ) → i ≤ j → f j ≡ f₀ j

pub clearing_none : {n k p : ℕ} {f : ℕ → ℕ} {x b q v : ℕ} → k < n → x ≡ f k → b ≡ x / 2 ^ (n - 1 - k) % 2
    → q ≡ f p → v ≡ bit_xor x ((1 - b) % 2 * q)
    → Clearing n k p f v f (k + 1)
clearing_none {n} {k} {p} {f} {x} {b} {q} {v} h row digit other added = record {
  behind = omega arith;
  within = omega arith;
  top = row_pivoted n k p f x b q v row digit other added;
  done = λ j a l. absurd (omega arith);
  left = λ j l. refl;
}

module _ {n k p : ℕ} {f₀ : ℕ → ℕ} {v : ℕ} {f : ℕ → ℕ} {i : ℕ} (g : Clearing n k p f₀ v f i) where
  -- Row x, with v added where it has bit k, is stored as y.
  pub clearing_more : {x b y : ℕ} {f₁ : ℕ → ℕ} → i < n → x ≡ f i → b ≡ x / 2 ^ (n - 1 - k) % 2
      → y ≡ bit_xor x (b % 2 * v) → Replaced f i y f₁
      → Clearing n k p f₀ v f₁ (i + 1)
  clearing_more {x} {b} {y} {f₁} h row digit added put =
      let from = g.behind in
      let made : y ≡ left_step n k p f₀ i = row_cleared n k p f₀ i x b v y from g.top (row ∙ g.left i (omega arith)) digit added in
      record {
        behind = omega arith;
        within = omega arith;
        top = g.top;
        done = λ j a l. elim (ℕ_discrete i j) [
          | yes q ↦ subst (λ (j : ℕ). f₁ j ≡ left_step n k p f₀ j) q (put.here ∙ made)
          | no q ↦ put.others j (omega arith) ∙ g.done j a (omega arith)
        ];
        left = λ j l. put.others j (omega arith) ∙ g.left j (omega arith);
      }

  pub clearing_all : n ≤ i → ClearedBehind n k p f₀ f
  unfolding ClearedBehind
  clearing_all h j a l = g.done j a (omega arith)

-- ---- the columns: k of them are behind, and the rows from k on are those of an elimination, of `left` beside `right`, that answers as the whole does
pub record ReducedFrom (f₀ : ℕ → ℕ) (n : ℕ) (f : ℕ → ℕ) (k : ℕ) : Type 0 where
  pub within : k ≤ n
  pub left : List ℕ
  pub right : List ℕ
  pub rows : (i : ℕ) → k ≤ i → i < n → f i ≡ at left i
  pub same : invert n (tabulate n f₀) ≡ columns n (n - k) k left right

pub reduced_none : (f : ℕ → ℕ) (n : ℕ) → ReducedFrom f n f 0
unfolding invert
reduced_none f n =
    let all : n ≡ n - 0 = omega arith in
    record {
      within = omega arith;
      left = tabulate n f;
      right = identity n;
      rows = λ i a l. sym (at_tabulate n f i l);
      same = ap (λ (d : ℕ). columns n d 0 (tabulate n f) (identity n)) all;
    }

module _ {f₀ f : ℕ → ℕ} {n k : ℕ} (g : ReducedFrom f₀ n f k) where
  -- The pivot that the code looks for.
  found_same : (p : ℕ) → p ≡ pivot_from n k f (n - k) k → pivot_from n k (at g.left) (n - k) k ≡ p
  found_same p e =
      let upto = g.within in
      sym (e ∙ pivot_same n k f (at g.left) (n - k) k (λ j a l. g.rows j a (omega arith)))

  pub reduced_singular : k < n → pivot_from n k f (n - k) k ≡ n → false ≡ has_inverse (invert n (tabulate n f₀))
  reduced_singular below e =
      sym (ap has_inverse (g.same ∙ columns_none n k below g.left g.right _ (found_same _ refl) e))

  pub reduced_next : {p : ℕ} {f₁ : ℕ → ℕ} → k < n → p ≡ pivot_from n k f (n - k) k → p < n → ClearedBehind n k p f f₁ → ReducedFrom f₀ n f₁ (k + 1)
  unfolding ClearedBehind
  reduced_next {p} {f₁} below e inside cleared =
      let found = found_within n k f p below e in
      let step = left_step n k p (at g.left) in
      record {
        within = omega arith;
        left = tabulate n step;
        right = tabulate n (right_step n k p (at g.left) (at g.right));
        rows = λ i a l.
            cleared i (omega arith) l
            ∙ step_rows n k p f (at g.left) i (g.rows i (omega arith) l) (g.rows k (omega arith) below) (g.rows p found.0 inside)
            ∙ sym (at_tabulate n step i l);
        same = g.same ∙ columns_next n k below g.left g.right p (found_same p e) inside;
      }

  pub reduced_all : n ≤ k → true ≡ has_inverse (invert n (tabulate n f₀))
  reduced_all h =
      let upto = g.within in
      sym (ap has_inverse (g.same ∙ columns_done n k g.left g.right (omega arith)))
