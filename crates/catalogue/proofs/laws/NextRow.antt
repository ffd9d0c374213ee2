-- Laws, not definitions: the search for the next row among its choices, and how many matrices go on with one.
-- Assumes nothing.
use mathlib.Core.Path.{◌≡◌, sym, ap, ◌∙◌}
use Prim.Native.Nat.{ℕ, ◌+◌, ◌-◌, ◌<◌, ◌≤◌}
use native.Mathlib.Decide.{dec_lt}
use native.Mathlib.Numerals.{add-one}
use native.Mathlib.Omega.{arith}
use borrow.Author.Tests.{eq-eqb, ne_eqb}
use Rattle.bits.specs.Counts.{sum_below}
use Rattle.catalogue.specs.Kernels.{vectors, kernel_with, completions}

-- ---- the loop over the choices of a row. Its invariant: the rows before this one lead to all but `rest` of what stands before the position.
pub record Searching (k each position row rest : ℕ) : Type 0 where
  pub small : row < vectors
  pub passed : position ≡ sum_below row (completions k each) + rest

pub searching_none : {k each position : ℕ} → Searching k each position 0 position
unfolding sum_below
searching_none = record { small = omega arith; passed = omega arith }

module _ {k each position row rest : ℕ} (I : Searching k each position row rest) {here : ℕ} (e : here ≡ completions k each row) where
  -- It is a later row, and there is one, for all rows together lead beyond the position.
  pub searching_more : here ≤ rest → position < sum_below vectors (completions k each) → Searching k each position (row + 1) (rest - here)
  unfolding sum_below
  searching_more h asks =
      let one : sum_below (row + 1) (completions k each) ≡ sum_below row (completions k each) + completions k each row =
      ap (λ (n : ℕ). sum_below n (completions k each)) (add-one row) in
      let p : position ≡ sum_below (row + 1) (completions k each) + (rest - here) = omega (arith, I.passed) in
      record { small = not_last p; passed = p }
    where
      not_last : position ≡ sum_below (row + 1) (completions k each) + (rest - here) → row + 1 < vectors
      not_last p = elim (dec_lt (row + 1) vectors) [
        | yes l ↦ l
        | no l ↦
            let last = ap (λ (n : ℕ). sum_below n (completions k each)) (let q : row + 1 ≡ vectors = omega (arith, I.small) in q) in
            absurd (omega arith)
      ]

pub completions_none : (k each row : ℕ) {next : ℕ} → next ≡ kernel_with k row → next ≡ k → 0 ≡ completions k each row
unfolding completions
completions_none k each row e q = rw (eq-eqb (kernel_with k row) k (sym e ∙ q))

pub completions_each : (k each row : ℕ) {next : ℕ} → next ≡ kernel_with k row → (next ≡ k → ⊥) → each ≡ completions k each row
unfolding completions
completions_each k each row e q = rw (ne_eqb (kernel_with k row) k (λ p. q (e ∙ p)))
