-- `inversion::elimination::start` meets its contract. The loop's invariant, `Started` of `laws.Loops`: the first i rows of a stand on the left
-- and those of the identity on the right, and the work area has kept its length. A turn stores row i of a and the vector whose only one is bit
-- i (`started_more`); behind the last row both sides are whole (`started_all`).
-- Assumes nothing.
use Rattle.inversion.proofs.laws.Loops.{started_more, started_all}
use Rattle.inversion.proofs.elimination.start.Goals as goal

pub loop-i-preserved : goal.loop-i-preserved
loop-i-preserved g c =
    started_more c.loop-i.invariant c.requires.room c.loop-i-test.true c.row.ensures c.beside_power.ensures.row c.beside_power.ensures.inverse

pub returns : goal.returns
returns g c =
    let done = started_all c.loop-i.invariant (search) in
    record { left = done.0; right = done.1 }
