-- `inversion::elimination::eliminate` meets its contract. The loop's invariant, `Reduced` of `laws.Loops`: the elimination of the columns from k on
-- ends as that of all columns from the start does, and the work area has kept its length. A turn finds column k's pivot, moves it into row k and
-- clears the column (`reduced_next`); without a pivot the matrix is singular (`reduced_singular`); behind the last column the right side is the
-- inverse (`reduced_all`).
-- Assumes nothing.
use Rattle.inversion.proofs.laws.Loops.{pivot_given, none_given, reduced_singular, reduced_next, reduced_all}
use Rattle.inversion.proofs.elimination.eliminate.Goals as goal

pub returns-in_default : goal.returns-in_default
returns-in_default g c =
    reduced_singular c.loop-k.invariant c.loop-k-test.true (none_given _ _ _ c.loop-k-test.true c.in_default.ensures)

pub pivot-requires-clause-row : goal.pivot-requires-clause-row
pivot-requires-clause-row g c = (pivot_given _ _ _ c.in-Some.ensures).1

pub loop-k-preserved : goal.loop-k-preserved
loop-k-preserved g c =
    let given = pivot_given _ _ _ c.in-Some.ensures in
    reduced_next c.loop-k.invariant c.loop-k-test.true given.0 given.1 c.pivot.ensures c.clear.ensures (search) (search)

pub returns : goal.returns
returns g c =
    reduced_all c.loop-k.invariant (search)
