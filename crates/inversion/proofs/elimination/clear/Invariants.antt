use Rattle.inversion.proofs.laws.Loops.{Cleared}
use Rattle.inversion.proofs.elimination.clear.Given as goal

abbrev pub invariant-loop-i : goal.invariant-loop-i
invariant-loop-i g l = Cleared g.R.Row.number g.R.Augmented.inverse l.n l.k l.initial.work l.top l.work l.i
