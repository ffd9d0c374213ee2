-- A table by its stage or half and its number there. Definitions only.
use Rattle.std.specs.Prelude.{List, ℕ}
use Rattle.network.specs.Tables.{spread_table, table_in}
use Rattle.layout.specs.Stages.{numbers_of}
use Rattle.layout.specs.declared.stage.Stage.{Stage}
use Rattle.whitebox.specs.Bundles.{codings_of}
use Rattle.whitebox.specs.Parts.{parts_for}
use Rattle.whitebox.specs.Tables.{layer_of}

-- Table j of a stage or half, for the cipher c of nr rounds, from the round keys w and the bundle l.
abbrev pub stage_table : ℕ → ℕ → List ℕ → List ℕ → Stage → ℕ → List ℕ
stage_table c nr w l s j = table_in (codings_of nr l).encoding (layer_of (parts_for c nr w) (codings_of nr l) nr s) (numbers_of nr s) j

-- Spread table p of it.
abbrev pub stage_spread : ℕ → ℕ → List ℕ → List ℕ → Stage → ℕ → List ℕ
stage_spread c nr w l s p = spread_table (codings_of nr l).encoding (layer_of (parts_for c nr w) (codings_of nr l) nr s) (numbers_of nr s) p
