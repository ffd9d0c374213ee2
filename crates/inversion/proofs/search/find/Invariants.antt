use Rattle.inversion.specs.Work.{row_in}
use Rattle.inversion.proofs.laws.Loops.{Sought}
use Rattle.inversion.proofs.search.find.Given as goal

abbrev pub invariant-loop-i : goal.invariant-loop-i
invariant-loop-i g l = Sought l.n l.k (row_in g.R.Row.number l.rows) l.i
