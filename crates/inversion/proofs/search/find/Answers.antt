-- `inversion::search::find` meets its contract. The loop's invariant, `Sought` of `laws.Loops`: of the rows from k on, none before row i has bit k. A turn reads bit
-- k of row i: where it is 1, row i is the pivot (`sought_here`), which is told (`pivot_told`), else the search goes on (`sought_more`); behind the last row there
-- is none (`sought_all`), and none is told (`none_told`).
-- Assumes nothing.
use Rattle.inversion.proofs.laws.Loops.{sought_here, sought_more, sought_all, pivot_told, none_told}
use Rattle.inversion.proofs.laws.Rows.{row_is}
use native.Mathlib.Omega.{arith}
use Rattle.inversion.proofs.search.find.Goals as goal

pub returns-then-digit-eq1 : goal.returns-then-digit-eq1
returns-then-digit-eq1 g c =
    let here = sought_here c.loop-i.invariant c.loop-i-test.true (row_is _ _ _ _ (omega arith) c.index-rows-i.is) c.digit.ensures (search) in
    pivot_told _ _ _ here c.loop-i-test.true

pub loop-i-preserved : goal.loop-i-preserved
loop-i-preserved g c =
    sought_more c.loop-i.invariant c.loop-i-test.true (row_is _ _ _ _ (omega arith) c.index-rows-i.is) c.digit.ensures (search)

pub returns : goal.returns
returns g c =
    none_told _ _ _ (sought_all c.loop-i.invariant (search))
