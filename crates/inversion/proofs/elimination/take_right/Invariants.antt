use Rattle.matrices.proofs.laws.Rows.{Stored}
use Rattle.inversion.specs.Work.{row_in}
use Rattle.inversion.proofs.elimination.take_right.Given as goal

abbrev pub invariant-loop-i : goal.invariant-loop-i
invariant-loop-i g l = Stored l.n (row_in g.R.Augmented.inverse l.work) l.initial.b l.b l.i
