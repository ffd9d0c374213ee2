-- `blocks::block_number` meets its contract. The loop's invariant, `Joined` of bits' `laws.Joined`: the number is that of the first r rows of the block. A turn
-- joins row r, which is nibble j of row 4 i + r of the matrix (`joined_more`); behind the last row the number is the block's (`number_joined` of `laws.Code`). The
-- place of the nibble is small, and a number of up to four rows is below 2^16 (`joined_room`), so nothing wraps.
-- Assumes nothing.
use mathlib.Core.List.{List}
use Prim.Native.Nat.{ℕ, ◌+◌, ◌*◌, ◌^◌, ◌<◌, ◌≤◌}
use native.Mathlib.Omega.{arith}
use Rattle.bits.specs.Bytes.{Bytes}
use Rattle.bits.proofs.laws.Joined.{Joined, joined_none, joined_more, joined_all, joined_room}
use Rattle.bits.proofs.laws.Nibbles.{nibble_lt}
use Rattle.catalogue.specs.Catalogue.{side}
use Rattle.blocks.proofs.laws.Code.{first_byte_of, nibble_in, number_joined}
use Rattle.blocks.proofs.block_number.Goals as goal

-- the number of the first r rows, of four bits each
room : (w : ℕ) (p : List ℕ) (i j : ℕ) {number r : ℕ} → Bytes p → Joined side side (nibble_in w p i j) number r
    → (b : ℕ) → side * r ≤ b → number < 2 ^ b
room w p i j bytes g b h = joined_room g b h (λ k. nibble_lt p bytes (2 * first_byte_of w i k + j))

pub loop-r-init : goal.loop-r-init
loop-r-init c = search joined_none

pub overflow_mul-number : goal.overflow_mul-number
overflow_mul-number c = omega (arith, room _ _ _ _ (λ k. (c.type_inv.p k).fits) c.loop-r.invariant 12 (omega arith))

pub overflow_add-number : goal.overflow_add-number
overflow_add-number c = omega (arith, room _ _ _ _ (λ k. (c.type_inv.p k).fits) c.loop-r.invariant 12 (omega arith))

pub loop-r-preserved : goal.loop-r-preserved
loop-r-preserved c =
    joined_more c.loop-r.invariant c.loop-r-test.true (omega (arith, c.nibble-row.ensures.0))

pub overflow_cast-result : goal.overflow_cast-result
overflow_cast-result c = omega (arith, room _ _ _ _ (λ k. (c.type_inv.p k).fits) c.loop-r.invariant 16 (omega arith))

pub returns : goal.returns
returns c =
    number_joined _ _ (λ k. (c.type_inv.p k).fits) _ _ c.requires.1 c.requires.2 (joined_all c.loop-r.invariant (search))
