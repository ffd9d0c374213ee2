-- What is said of the inverses, for a reader: what is worked out once for a whole set is what each table is made with.
-- Statements; they are proved in proofs/laws/Inverses.antt.
use Rattle.std.specs.Prelude.{List, ◌≡◌, ℕ, ◌*◌, length}
use Rattle.bundle.specs.Format.{column_matrices}
use Rattle.layout.specs.Stages.{InRounds}
use Rattle.layout.specs.declared.stage.Stage.{Stage}
use Rattle.inverse_matrices.specs.InverseWords.{Begins, column_words, column_inverses, input_inverse, inverse_for, chosen_from}

-- The words that `chosen_from` hands over begin with those that the table is made with.
abbrev pub Chosen : Type 0
Chosen = (nr : ℕ) (l : List ℕ) (s : Stage) (j : ℕ) → InRounds nr s → Begins (inverse_for nr l s j) (chosen_from (column_inverses nr l) (input_inverse nr l) s j)

-- The inverses of all column matrices have `column_words` words each.
abbrev pub ColumnsLong : Type 0
ColumnsLong = (nr : ℕ) (l : List ℕ) → length (column_inverses nr l) ≡ column_matrices nr * column_words
