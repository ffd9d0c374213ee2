-- What the loops over the stages and halves of a walk ask, and what `compare::first_other` and `replay::compare_layer` find. Definitions only.
use Rattle.std.specs.Prelude.{Bool, not, List, Option, ◌≡◌, ℕ, ◌*◌, length}
use Rattle.answers.specs.Search.{first}
use Rattle.bits.specs.Lists.{part_of}
use Rattle.network.specs.Lookups.{Shape}
use Rattle.network.specs.Order.{layer_lookups}
use Rattle.layout.specs.Stages.{width_of, set_bytes}
use Rattle.layout.specs.declared.stage.Stage.{Stage}
use Rattle.rounds.specs.Rounds.{Rounds}
use Rattle.lookups.specs.Layer.{LayerStands}
use Rattle.layer_record.specs.Entries.{entry_size}
use Rattle.layer_record.specs.Layer.{LayerRecorded}
use Rattle.records.specs.Record.{record_bytes}
use Rattle.records.specs.Replay.{same}

-- Memory of the length of a set of nr rounds, of a block and of that set's record.
pub record RecordAsked (nr : ℕ) (set block recorded : List ℕ) : Type 0 where
  pub sized : length set ≡ set_bytes nr
  pub block_sized : length block ≡ 16
  pub record_sized : length recorded ≡ record_bytes nr
  pub rounds : Rounds nr

-- ---- two parts of records
-- They have other bytes for entry k.
abbrev pub other_in : List ℕ → List ℕ → ℕ → Bool
other_in a b k = not (same (part_of entry_size a k) (part_of entry_size b k))

-- ---- a stage or half, whose tables begin at byte `from` of memory of the given length, compared
-- It has `all` lookups; the part of a record for those lookups, and memory for what is recorded of them.
pub record CompareAsked (t : Stage) (from long all : ℕ) (recorded own : List ℕ) : Type 0 where
  pub stands : LayerStands t from long
  pub counted : all ≡ layer_lookups (width_of t)
  pub record_sized : length recorded ≡ all * entry_size
  pub own_sized : length own ≡ all * entry_size

-- `own` is what is recorded of all its lookups, and r is the first of them for which the part of the record has other bytes.
pub record LayerCompared (S : Shape) (set : List ℕ) (from : ℕ) (s a s' a' recorded own : List ℕ) (all : ℕ) (r : Option ℕ) : Type 0 where
  pub made : LayerRecorded S set from s a s' a' own
  pub found : r ≡ first all (other_in recorded own)
