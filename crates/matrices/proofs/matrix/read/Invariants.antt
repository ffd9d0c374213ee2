use Rattle.bits.specs.Lists.{at}
use Rattle.matrices.specs.Matrices.{matrix_of}
use Rattle.matrices.proofs.laws.Rows.{Stored}
use Rattle.matrices.proofs.matrix.read.Given as goal

abbrev pub invariant-loop-i : goal.invariant-loop-i
invariant-loop-i l = Stored l.n (at (matrix_of l.w l.s)) l.initial.m l.m l.i
