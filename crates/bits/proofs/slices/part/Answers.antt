-- `bits::slices::part` meets its contract. Each way out has a law of `laws.Cuts`, whose premises are the tests on the way: a part of no bytes is
-- empty (`part_nothing`), behind the rest there is nothing (`part_past`), behind the whole parts stands the rest (`part_rest`), and a whole part is cut
-- out of the slice (`part_cut`). A part starts within the slice (`part_starts`) and a whole one ends there (`part_ends`), so nothing wraps.
-- Assumes nothing.
use Prim.Native.Nat.{◌+◌, ◌*◌, ◌≤◌}
use lib.ListN.{length}
use Rattle.bits.proofs.laws.Cuts.{part_nothing, part_past, part_rest, part_starts, part_ends, part_cut}
use native.Mathlib.Omega.{arith}
use Rattle.bits.proofs.slices.part.Goals as goal

pub returns-then-size-eq0 : goal.returns-then-size-eq0
returns-then-size-eq0 c = part_nothing _ _ _ (search)

pub returns-then-whole-n : goal.returns-then-whole-n
returns-then-whole-n c = part_past _ _ _ (search) (search)

pub overflow_mul-a : goal.overflow_mul-a
overflow_mul-a c =
    let starts : c.args.n * c.args.size ≤ length c.args.s.now = part_starts _ _ _ c.if-whole-n.false in
    omega (arith, starts)

pub slice_bounds-result-count-then-whole-n-2 : goal.slice_bounds-result-count-then-whole-n-2
slice_bounds-result-count-then-whole-n-2 c =
    let starts : c.args.n * c.args.size ≤ length c.args.s.now = part_starts _ _ _ c.if-whole-n.false in
    omega (arith, starts)

pub slice_bounds-result-start-then-whole-n-2 : goal.slice_bounds-result-start-then-whole-n-2
slice_bounds-result-start-then-whole-n-2 c =
    let starts : c.args.n * c.args.size ≤ length c.args.s.now = part_starts _ _ _ c.if-whole-n.false in
    omega (arith, starts)

pub returns-then-whole-n-2 : goal.returns-then-whole-n-2
returns-then-whole-n-2 c = part_rest _ _ _ (search) (search)

pub overflow_add-e : goal.overflow_add-e
overflow_add-e c =
    let ends : c.args.n * c.args.size + c.args.size ≤ length c.args.s.now = part_ends _ _ _ c.if-whole-n.false c.if-whole-n-2.false in
    omega (arith, ends)

pub slice_bounds-result-end-2 : goal.slice_bounds-result-end-2
slice_bounds-result-end-2 c =
    let ends : c.args.n * c.args.size + c.args.size ≤ length c.args.s.now = part_ends _ _ _ c.if-whole-n.false c.if-whole-n-2.false in
    omega (arith, ends)

pub returns : goal.returns
returns c = part_cut _ _ _
