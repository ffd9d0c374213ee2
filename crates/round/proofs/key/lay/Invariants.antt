use lib.ListN.{length}
use Rattle.bits.specs.Lists.{at}
use Rattle.bits.proofs.laws.Filled.{Filled}
use Rattle.round.proofs.key.lay.Given as goal

abbrev pub invariant-loop-i : goal.invariant-loop-i
invariant-loop-i l = Filled (length l.initial.w) (at l.key) l.w l.i
