use Prim.Native.Nat.{◌^◌}
use Rattle.matrices.specs.Matrices.{product, matrix_of}
use Rattle.matrices.proofs.laws.Rows.{Stored}
use Rattle.round.specs.State.{mix_rows, inv_mix_rows, entry}
use Rattle.layout.specs.Ciphers.{for_cipher}
use Rattle.layers.proofs.laws.Words.{mixed_column}
use Rattle.layers.proofs.words.mixed_basis.Given as goal

abbrev pub invariant-loop-k : goal.invariant-loop-k
invariant-loop-k l =
    Stored 8 (λ j. product 32 (matrix_of 4 l.p) (mixed_column (entry (for_cipher l.cipher mix_rows inv_mix_rows)) l.q (2 ^ j))) l.initial.basis l.basis l.k
