use Prim.Native.Nat.{◌^◌}
use Rattle.bits.specs.Bytes.{placed}
use Rattle.matrices.specs.Matrices.{product, matrix_of}
use Rattle.matrices.proofs.laws.Rows.{Stored}
use Rattle.layers.proofs.words.placed_basis.Given as goal

abbrev pub invariant-loop-k : goal.invariant-loop-k
invariant-loop-k l = Stored 8 (λ j. product 128 (matrix_of 16 l.p) (placed 16 l.i (2 ^ j))) l.initial.basis l.basis l.k
