use Prim.Native.Nat.{◌+◌, ◌*◌, ◌/◌, ◌%◌, ◌^◌}
use Rattle.bits.specs.Words.{value}
use Rattle.bits.proofs.laws.Summed.{Summed}
use Rattle.matrices.specs.Rows.{row_at}
use Rattle.matrices.proofs.nibbles.nibble_word.Given as goal

abbrev pub invariant-loop-i : goal.invariant-loop-i
invariant-loop-i l = Summed 4 (λ k. (l.v / 2 ^ k % 2) * row_at l.basis (l.first + k)) (value l.w) l.i
