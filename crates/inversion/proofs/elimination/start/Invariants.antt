use Rattle.inversion.proofs.laws.Loops.{Started}
use Rattle.inversion.proofs.elimination.start.Given as goal

abbrev pub invariant-loop-i : goal.invariant-loop-i
invariant-loop-i g l = Started g.R.Row.number g.R.Augmented.inverse l.n l.a l.initial.work l.work l.i
