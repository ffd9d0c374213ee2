use Rattle.matrices.specs.Rows.{row_at}
use Rattle.matrices.proofs.laws.Rows.{Stored}
use Rattle.matrices.specs.ByNibbles.{combined, nibble_byte}
use Rattle.matrices.proofs.nibbles.nibble_words.Given as goal

abbrev pub invariant-loop-r : goal.invariant-loop-r
invariant-loop-r l = Stored 32 (λ k. combined (row_at l.basis) (nibble_byte k)) l.initial.dst l.dst l.r
