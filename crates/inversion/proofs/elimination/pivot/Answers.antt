-- `inversion::elimination::pivot` meets its contract. The digit read is bit k of row k on the left; row p is added to row k, on both sides, where that bit is 0, which is
-- the step of `pivot_by` (`pivot_stepped` of `laws.Loops`). Its premises are what the calls ensure.
-- Assumes nothing.
use Rattle.inversion.proofs.laws.Loops.{pivot_stepped}
use native.Mathlib.Omega.{arith}
use Rattle.inversion.proofs.elimination.pivot.Goals as goal

pub returns : goal.returns
returns g c =
    pivot_stepped _ (omega arith) (omega arith) c.index-work-k.is c.index-work-p.is c.digit.ensures c.add.ensures.row c.add.ensures.inverse
