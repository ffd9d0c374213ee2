-- `invertible::forward::eliminate` meets its contract. The loop's invariant, `ReducedFrom` of `laws.Forward`: the rows from k on are those of an elimination that
-- answers as the one of all columns from the start does. A turn finds column k's pivot, and clears the column in the rows behind row k, by what stands in these
-- rows alone (`reduced_next`); without a pivot there is no inverse (`reduced_singular`); behind the last column there is one (`reduced_all`).
-- Assumes nothing.
use Rattle.inversion.proofs.laws.Loops.{pivot_given, none_given}
use Rattle.invertible.proofs.laws.Forward.{reduced_none, reduced_singular, reduced_next, reduced_all}
use Rattle.invertible.proofs.forward.eliminate.Goals as goal

pub loop-k-init : goal.loop-k-init
loop-k-init g c = reduced_none _ _

pub returns-in_default : goal.returns-in_default
returns-in_default g c =
    reduced_singular c.loop-k.invariant c.loop-k-test.true (none_given _ _ _ c.loop-k-test.true c.in_default.ensures)

pub clear-requires-clause-row : goal.clear-requires-clause-row
clear-requires-clause-row g c = (pivot_given _ _ _ c.in-Some.ensures).1

pub loop-k-preserved : goal.loop-k-preserved
loop-k-preserved g c =
    let given = pivot_given _ _ _ c.in-Some.ensures in
    reduced_next c.loop-k.invariant c.loop-k-test.true given.0 given.1 c.clear.ensures

pub returns : goal.returns
returns g c =
    reduced_all c.loop-k.invariant (search)
