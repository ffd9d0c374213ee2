use Rattle.bits.proofs.laws.Summed.{Summed}
use Rattle.field.specs.Field.{mul}
use Rattle.round.specs.State.{cell, entry}
use Rattle.round.proofs.state.row_by_column.Given as goal

abbrev pub invariant-loop-q : goal.invariant-loop-q
invariant-loop-q l = Summed 4 (λ p. mul (entry l.m l.r p) (cell l.s p l.c)) l.sum l.q
