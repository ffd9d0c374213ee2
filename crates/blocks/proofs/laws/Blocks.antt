-- Laws, not definitions: the rows of a block, and the blocks of a matrix that is built of them.
-- Assumes nothing.
use mathlib.Core.List.{List}
use mathlib.Core.Path.{◌≡◌, sym, ap, ap₂, ◌∙◌, subst}
use Prim.Native.Nat.{ℕ, ◌+◌, ◌*◌, ◌/◌, ◌%◌, ◌^◌, ◌<◌}
use native.Mathlib.Omega.{arith}
use Rattle.bits.specs.Groups.{joined, group}
use Rattle.bits.specs.Lists.{at}
use Rattle.bits.specs.Vectors.{bit}
use Rattle.bits.proofs.laws.Groups.{group_lt, joined_lt, group_joined}
use Rattle.bits.proofs.laws.Lists.{at_tabulate, length_tabulate, ext_at}
use Rattle.bits.proofs.laws.Vectors.{bit_group}
use Rattle.matrices.specs.Matrices.{Square}
use Rattle.catalogue.specs.Catalogue.{side}
use Rattle.blocks.specs.Blocks.{block, of_blocks}

-- ---- the rows of a block
module _ (q : ℕ) (m : List ℕ) (i j : ℕ) where
  pub block_row : (r : ℕ) → r < side → at (block q m i j) r ≡ group side q j (at m (side * i + r))
  unfolding block
  block_row r h = at_tabulate side _ r h

  pub block_square : Square side (block q m i j)
  unfolding block
  block_square = record {
    long = length_tabulate side _;
    fits = λ r h. subst (λ (x : ℕ). x < 2 ^ side) (sym (block_row r h)) (group_lt side q j (at m (side * i + r)));
  }

pub block_bit : (q : ℕ) (m : List ℕ) (i j r c : ℕ) → j < q → r < side → c < side
    → bit side c (at (block q m i j) r) ≡ bit (side * q) (side * j + c) (at m (side * i + r))
block_bit q m i j r c hj hr hc =
    ap (bit side c) (block_row q m i j r hr) ∙ bit_group side q j c (at m (side * i + r)) hj hc

-- ---- a matrix of q by q blocks
module _ (q : ℕ) (f : ℕ → ℕ → List ℕ) (squares : (i j : ℕ) → i < q → j < q → Square side (f i j)) where
  abbrev nibble_at : ℕ → ℕ → ℕ
  nibble_at r j = at (f (r / side) j) (r % side)

  fits : (r j : ℕ) → r < side * q → j < q → nibble_at r j < 2 ^ side
  fits r j h l = (squares (r / side) j (omega arith) l).fits (r % side) (omega arith)

  row_at : (r : ℕ) → r < side * q → at (of_blocks q f) r ≡ joined side q (nibble_at r)
  unfolding of_blocks
  row_at r h = at_tabulate (side * q) _ r h

  pub built_square : Square (side * q) (of_blocks q f)
  unfolding of_blocks
  built_square = record {
    long = length_tabulate (side * q) _;
    fits = λ r h. subst (λ (x : ℕ). x < 2 ^ (side * q)) (sym (row_at r h)) (joined_lt side q (nibble_at r) (λ j l. fits r j h l));
  }

  pub built_block : (i j : ℕ) → i < q → j < q → block q (of_blocks q f) i j ≡ f i j
  built_block i j hi hj =
      ext_at side _ _ (block_square q (of_blocks q f) i j).long (squares i j hi hj).long (λ r h.
      let row = side * i + r in
      let below : row < side * q = omega arith in
      let above : row / side ≡ i = omega arith in
      let within : row % side ≡ r = omega arith in
      block_row q (of_blocks q f) i j r h
      ∙ ap (group side q j) (row_at row below)
      ∙ group_joined side q (nibble_at row) (λ k l. fits row k below l) j hj
      ∙ ap₂ (λ (x y : ℕ). at (f x j) y) above within)
