use Prim.Native.Nat.{◌^◌}
use Rattle.bits.specs.Vectors.{dot}
use Rattle.bits.specs.Words.{value}
use Rattle.bits.proofs.laws.Joined.{Joined}
use Rattle.matrices.specs.Rows.{row_at}
use Rattle.matrices.proofs.matrix.column.Given as goal

abbrev pub invariant-loop-i : goal.invariant-loop-i
invariant-loop-i l = Joined 1 l.n (λ j. dot (row_at l.m j) (2 ^ l.s)) (value l.c) l.i
