use Rattle.inversion.specs.Work.{row_in}
use Rattle.invertible.proofs.laws.Forward.{ReducedFrom}
use Rattle.invertible.proofs.forward.eliminate.Given as goal

abbrev pub invariant-loop-k : goal.invariant-loop-k
invariant-loop-k g l = ReducedFrom (row_in g.R.Row.number l.initial.rows) l.n (row_in g.R.Row.number l.rows) l.k
