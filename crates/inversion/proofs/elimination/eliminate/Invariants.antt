use Rattle.inversion.proofs.laws.Loops.{Reduced}
use Rattle.inversion.proofs.elimination.eliminate.Given as goal

abbrev pub invariant-loop-k : goal.invariant-loop-k
invariant-loop-k g l = Reduced g.R.Row.number g.R.Augmented.inverse l.initial.work l.n l.work l.k
