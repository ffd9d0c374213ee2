use Rattle.bits.specs.Bytes.{bytes_of}
use Rattle.bits.proofs.laws.Parts.{Parts}
use Rattle.matrices.specs.Rows.{row_at}
use Rattle.matrices.proofs.matrix.write.Given as goal

abbrev pub invariant-loop-i : goal.invariant-loop-i
invariant-loop-i l = Parts l.n l.w (λ r. bytes_of l.w (row_at l.m r)) l.initial.dst l.dst l.i
