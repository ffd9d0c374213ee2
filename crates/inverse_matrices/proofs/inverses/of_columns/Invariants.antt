use Prim.Native.Nat.{◌-◌, ◌*◌}
use Rattle.bits.proofs.laws.Parts.{Parts}
use Rattle.inverse_matrices.specs.InverseWords.{column_words, column_inverse}
use Rattle.inverse_matrices.proofs.inverses.of_columns.Given as goal

abbrev pub invariant-loop-n : goal.invariant-loop-n
invariant-loop-n l = Parts (4 * (l.opened.rounds - 1)) column_words (column_inverse l.opened.rounds l.opened.bundle.now) l.initial.dst l.dst l.n
