use Prim.Native.Nat.{◌^◌}
use Rattle.matrices.specs.Matrices.{product}
use Rattle.matrices.specs.Rows.{rows_of}
use Rattle.matrices.proofs.laws.Rows.{Stored}
use Rattle.substitution.proofs.values.columns.Given as goal

abbrev pub invariant-loop-k : goal.invariant-loop-k
invariant-loop-k l = Stored 8 (λ i. product 8 (rows_of 8 l.m) (2 ^ i)) l.initial.basis l.basis l.k
