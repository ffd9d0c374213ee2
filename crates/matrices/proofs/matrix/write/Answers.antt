-- `matrices::matrix::write` meets its contract. The loop's invariant, `Parts` of bits: the first i parts of w bytes hold the bytes of the first
-- i rows. A turn lends part i, into which `vector::write` writes row i (`row_written` of `laws.Stored`, with `parts_more`); behind the last
-- part the bytes are those of the matrix (`matrix_written`). A part lies within the bytes, at most 2048 of them, so no index wraps, and is w
-- bytes long (`part_lent`).
-- Assumes nothing.
use Rattle.bits.proofs.laws.Parts.{Part, parts_none, part_lent, parts_more}
use Rattle.matrices.proofs.laws.Stored.{row_written, matrix_written}
use native.Mathlib.Omega.{arith}
use Rattle.matrices.proofs.matrix.write.Goals as goal

pub loop-i-init : goal.loop-i-init
loop-i-init c = parts_none (omega arith)

pub overflow_mul-a : goal.overflow_mul-a
overflow_mul-a c =
    let part : Part c.loop-i.invariant = part_lent c.loop-i.invariant c.loop-i-test.true in
    omega (arith, part)

pub overflow_add-e : goal.overflow_add-e
overflow_add-e c =
    let part : Part c.loop-i.invariant = part_lent c.loop-i.invariant c.loop-i-test.true in
    omega (arith, part)

pub slice_bounds-write-end : goal.slice_bounds-write-end
slice_bounds-write-end c =
    let part : Part c.loop-i.invariant = part_lent c.loop-i.invariant c.loop-i-test.true in
    omega (arith, part)

pub write-requires : goal.write-requires
write-requires c =
    let part : Part c.loop-i.invariant = part_lent c.loop-i.invariant c.loop-i-test.true in
    omega (arith, part)

pub loop-i-preserved : goal.loop-i-preserved
loop-i-preserved c =
    let part : Part c.loop-i.invariant = part_lent c.loop-i.invariant c.loop-i-test.true in
    parts_more c.loop-i.invariant c.loop-i-test.true c.write.auto.dst
    (row_written _ _ _ _ _ _ c.row-v.ensures part.long c.write.ensures)

pub returns : goal.returns
returns c = search matrix_written
