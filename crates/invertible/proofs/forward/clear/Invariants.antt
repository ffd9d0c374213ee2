use Rattle.invertible.proofs.laws.Lists.{Rows}
use Rattle.invertible.proofs.forward.clear.Given as goal

abbrev pub invariant-loop-i : goal.invariant-loop-i
invariant-loop-i g l = Rows g.R.Row.number l.n l.k l.p l.initial.rows l.cleared_by l.rows l.i
