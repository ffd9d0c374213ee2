use Rattle.invertible.proofs.laws.Lists.{Taken}
use Rattle.invertible.proofs.forward.read.Given as goal

abbrev pub invariant-loop-i : goal.invariant-loop-i
invariant-loop-i g l = Taken g.R.Row.number l.w l.p l.initial.rows l.rows l.i
