use Prim.Native.Nat.{◌^◌}
use Rattle.bits.specs.Bytes.{placed}
use Rattle.bits.specs.Lists.{at}
use Rattle.bits.specs.Vectors.{dot}
use Rattle.bits.specs.Words.{value}
use Rattle.bits.proofs.laws.Joined.{Joined}
use Rattle.matrices.specs.Matrices.{matrix_of}
use Rattle.layers.proofs.words.written_column.Given as goal

abbrev pub invariant-loop-r : goal.invariant-loop-r
invariant-loop-r l = Joined 1 128 (λ j. dot (at (matrix_of 16 l.p) j) (placed 16 l.i (2 ^ l.k))) (value l.v) l.r
