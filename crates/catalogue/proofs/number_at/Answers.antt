-- `catalogue::number_at` meets its contract. The loop's invariant is `Unranked` of `laws.Unranking`: whatever stands at `rest` among the matrices that go on from the
-- rows chosen, put behind their number, is the element at the position. A turn chooses one row more (`unranked_asks`, `unranked_more`); behind the last turn nothing is
-- put behind the number (`unranked_all`), and it has 16 bits (`unranked_small`).
-- Assumes nothing.
use native.Mathlib.Omega.{arith}
use Rattle.catalogue.proofs.laws.Unranking.{unranked_none, unranked_asks, unranked_more, unranked_small, unranked_all}
use Rattle.catalogue.proofs.number_at.Goals as goal

pub loop-left-init : goal.loop-left-init
loop-left-init c = unranked_none c.requires

pub next_row-next-requires : goal.next_row-next-requires
next_row-next-requires c =
    unranked_asks c.loop-left.invariant (omega arith) c.ways_at.ensures

pub overflow_mul-number : goal.overflow_mul-number
overflow_mul-number c =
    omega (arith, unranked_small c.loop-left.invariant, c.next_row-next.ensures.small)

pub overflow_add-number : goal.overflow_add-number
overflow_add-number c =
    omega (arith, unranked_small c.loop-left.invariant, c.next_row-next.ensures.small)

pub loop-left-preserved : goal.loop-left-preserved
loop-left-preserved c =
    unranked_more c.loop-left.invariant (omega arith) c.ways_at.ensures c.next_row-next.ensures

pub returns : goal.returns
returns c =
    unranked_all c.loop-left.invariant (omega arith)
