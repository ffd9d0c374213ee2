-- The values due, "each worked out from FIPS 197's state and the matrices" (document 01, "The 3,008 look-ups"). No inverse of a byte
-- matrix stands in them. Ciphers.antt has them in FIPS 197's own names (`DueByFips`). Definitions only.
use Rattle.std.specs.Prelude.{List, [], map, ℕ, ◌+◌, ◌-◌, ◌*◌, ◌/◌, ◌%◌}
use Rattle.bits.specs.Bytes.{number, byte}
use Rattle.bits.specs.Lists.{at, tabulate}
use Rattle.matrices.specs.Matrices.{product}
use Rattle.external.specs.Coding.{multiply}
use Rattle.network.specs.Due.{Due, Values, standing_due, area_due, due_state}
use Rattle.network.specs.Lookups.{State}
use Rattle.network.specs.Numbers.{start_numbers}
use Rattle.layout.specs.Stages.{stages}
use Rattle.layout.specs.declared.stage.Stage.{Stage}
use Rattle.layout.specs.declared.stage.Stage.TheVariants.{Entry, First, Second, Exit, Beyond}
use Rattle.whitebox.specs.Codings.{Codings, byte_matrix_at, column_matrix_at}
use Rattle.whitebox.specs.Parts.{Parts}
use Rattle.whitebox.specs.States.{keyed, state_after, result}
use Rattle.whitebox.specs.Words.{entry_word, mixed_word, second_word_of, placed_word}

module _ (C : Codings) where
  -- Each byte j of s under byte matrix (r, j): "the state behind MixColumns, each byte under its round r+1 matrix"; for the inverse cipher
  -- behind InvMixColumns.
  unfoldable pub under_bytes : ℕ → List ℕ → List ℕ
  under_bytes r s = tabulate 16 (λ j. product 8 (byte_matrix_at C r j) (at s j))

  -- Each column c of s under column matrix (r, c).
  unfoldable pub under_columns : ℕ → List ℕ → List ℕ
  under_columns r s =
      tabulate 16 (λ i. byte 4 (i % 4) (product 32 (column_matrix_at C r (i / 4)) (number 4 (λ t. at s (4 * (i / 4) + t)))))

module _ (P : Parts) (C : Codings) (nr : ℕ) (b : List ℕ) where
  -- Of each stage and half, from the uncoded presented block b: the bytes that stand at its start, and the word of each spread lookup.
  -- At the entry they are "the input matrix times the uncoded block".
  abbrev pub standing_at : Stage → List ℕ
  standing_at Entry = multiply C.input_matrix b
  standing_at (First r) = under_bytes C r (state_after P b (r - 1))
  standing_at (Second r) = under_columns C r (state_after P b r)
  standing_at Exit = under_bytes C nr (state_after P b (nr - 1))
  standing_at Beyond = []

  abbrev pub word_at : Stage → ℕ → List ℕ
  word_at Entry p = entry_word P C p (at (standing_at Entry) p)
  word_at (First r) p = mixed_word P C r p (at (keyed P r (state_after P b (r - 1))) p)
  word_at (Second r) p = second_word_of P C r p (at (standing_at (Second r)) p)
  word_at Exit p = placed_word P C p (at (result P nr b) p)
  word_at Beyond p = []

  abbrev pub values_at : Stage → Values
  values_at s = record { width = Rattle.layout.specs.Stages.width_of s; standing = standing_at s; word = word_at s }

  unfoldable pub values : List Values
  values = map values_at (stages nr)

  -- What stands at the end: the output matrix times the cipher's block.
  unfoldable pub ended : List ℕ
  ended = multiply C.output_matrix (result P nr b)

  -- Due at standing nibble q, and at nibble q of the area, at count k; and the state in which each place holds what is due.
  unfoldable pub due_standing : ℕ → ℕ → Due
  due_standing k q = standing_due values ended start_numbers k q

  unfoldable pub due_area : ℕ → ℕ → Due
  due_area k q = area_due values start_numbers k q

  unfoldable pub state_due : ℕ → State
  state_due k = due_state C.encoding values ended start_numbers 0 k
