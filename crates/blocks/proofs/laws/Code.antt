-- Laws, not definitions: the blocks of the matrix that bytes write, as the code reads and tests them.
-- Assumes nothing.
use mathlib.Core.Bool.{Bool, not}
use mathlib.Core.List.{List}
use mathlib.Core.Path.{◌≡◌, sym, ap, ◌∙◌}
use Prim.Native.Nat.{ℕ, ◌+◌, ◌*◌, ◌<◌}
use native.Mathlib.Omega.{arith}
use Rattle.bits.specs.Bytes.{Bytes}
use Rattle.bits.specs.Groups.{joined, group}
use Rattle.bits.specs.Lists.{at}
use Rattle.bits.specs.Nibbles.{nibble}
use Rattle.bits.proofs.laws.Groups.{group_joined, joined_same}
use Rattle.bits.proofs.laws.Nibbles.{nibble_lt, number_nibbles}
use Rattle.matrices.specs.Matrices.{matrix_of}
use Rattle.matrices.proofs.laws.Stored.{matrix_of_at}
use Rattle.inversion.specs.Elimination.{invert, has_inverse}
use Rattle.catalogue.specs.Catalogue.{side, number_of_rows, rows_of_number, is_invertible}
use Rattle.catalogue.proofs.laws.Numbered.{rows_of_rows}
use Rattle.blocks.specs.Blocks.{block, block_bad}
use Rattle.blocks.proofs.laws.Blocks.{block_row, block_square}

-- ---- row r of block i, j: nibble j of row 4 i + r, whose first byte is byte (4 i + r) * w
abbrev pub first_byte_of : ℕ → ℕ → ℕ → ℕ
first_byte_of w i r = (side * i + r) * w

abbrev pub nibble_in : ℕ → List ℕ → ℕ → ℕ → ℕ → ℕ
nibble_in w p i j r = nibble p (2 * first_byte_of w i r + j)

module _ (w : ℕ) (p : List ℕ) (bytes : Bytes p) (i j : ℕ) (hi : i < 2 * w) (hj : j < 2 * w) where
  row_nibble : (r : ℕ) → r < side → at (block (2 * w) (matrix_of w p) i j) r ≡ nibble_in w p i j r
  row_nibble r h =
      let a = first_byte_of w i r in
      block_row (2 * w) (matrix_of w p) i j r h
      ∙ ap (group side (2 * w) j) (matrix_of_at w p (side * i + r) (omega arith) ∙ number_nibbles p a w)
      ∙ group_joined side (2 * w) (λ q. nibble p (2 * a + q)) (λ q l. nibble_lt p bytes (2 * a + q)) j hj

  -- The number of the block, of the nibbles that the code has joined.
  pub number_joined : {v : ℕ} → v ≡ joined side side (nibble_in w p i j) → v ≡ number_of_rows side (block (2 * w) (matrix_of w p) i j)
  unfolding number_of_rows
  number_joined e = e ∙ joined_same side side _ _ (λ r h. sym (row_nibble r h))

-- ---- the test of a block by its number v; t is what it says
pub block_told : (q : ℕ) (m : List ℕ) (i j : ℕ) {v : ℕ} {t : Bool} → v ≡ number_of_rows side (block q m i j) → t ≡ is_invertible side v → not t ≡ block_bad q m i j
unfolding is_invertible block_bad
block_told q m i j {v} {t} number told =
    let rows : rows_of_number side v ≡ block q m i j = ap (rows_of_number side) number ∙ rows_of_rows side (block q m i j) (block_square q m i j) in
    ap not (told ∙ ap (λ (x : List ℕ). has_inverse (invert side x)) rows)
