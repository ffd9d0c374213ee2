-- `inversion::elimination::clear` meets its contract. The loop's invariant, `Cleared` of `laws.Loops`: row k, which was taken before the loop, has been added to those of
-- the first i rows that have bit k, and the work area has kept its length. A turn adds it to row i by its bit (`cleared_more`). Behind the last row,
-- row k is put back, and the step is done on both sides (`cleared_all`).
-- Assumes nothing.
use Rattle.inversion.proofs.laws.Loops.{cleared_none, cleared_more, cleared_all}
use native.Mathlib.Omega.{arith}
use Rattle.inversion.proofs.elimination.clear.Goals as goal

pub loop-i-init : goal.loop-i-init
loop-i-init g c =
    cleared_none (omega arith) c.index-work-k.is

pub loop-i-preserved : goal.loop-i-preserved
loop-i-preserved g c =
    cleared_more c.loop-i.invariant c.requires.room c.loop-i-test.true c.index-work-i.is c.digit.ensures c.add.ensures.row c.add.ensures.inverse

pub returns : goal.returns
returns g c =
    cleared_all c.loop-i.invariant c.requires.room c.requires.column (search)
