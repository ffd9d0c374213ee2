-- The layers of the network that AES is, its tables, and the table set. Definitions only.
use Rattle.std.specs.Prelude.{List, [], map, ℕ}
use Rattle.bits.specs.Lists.{concat}
use Rattle.network.specs.Numbers.{start_numbers}
use Rattle.network.specs.Tables.{Layer, table_at}
use Rattle.layout.specs.Stages.{stages, width_of, source_of, lookups}
use Rattle.layout.specs.declared.stage.Stage.{Stage}
use Rattle.layout.specs.declared.stage.Stage.TheVariants.{Entry, First, Second, Exit, Beyond}
use Rattle.whitebox.specs.Codings.{Codings}
use Rattle.whitebox.specs.Parts.{Parts}
use Rattle.whitebox.specs.Words.{entry_word, first_word, second_word_of, exit_word}

module _ (P : Parts) (C : Codings) (nr : ℕ) where
  abbrev pub word_of : Stage → ℕ → ℕ → List ℕ
  word_of Entry = entry_word P C
  word_of (First r) = first_word P C r
  word_of (Second r) = second_word_of P C r
  word_of Exit = exit_word P C nr
  word_of Beyond = λ p x. []

  abbrev pub layer_of : Stage → Layer
  layer_of s = record { width = width_of s; source = source_of P.reads s; word = word_of s }

  unfoldable pub layers : List Layer
  layers = map layer_of (stages nr)

  -- Table k, and the tables one after the other: "each table is used once and stored in order of use, so table number = look-up number, from 0".
  unfoldable pub table_of : ℕ → List ℕ
  table_of k = table_at C.encoding layers start_numbers k

  unfoldable pub tables_of : List ℕ
  tables_of = concat (lookups nr) table_of

  -- The set: nothing stands behind its tables.
  unfoldable pub set_of : List ℕ
  set_of = tables_of
