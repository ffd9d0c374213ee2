-- What the writers of all tables leave: the tables of a set. Definitions only.
use Rattle.std.specs.Prelude.{List, ℕ}
use Rattle.bits.specs.Lists.{concat}
use Rattle.layout.specs.Stages.{lookups}
use Rattle.whitebox.specs.Bundles.{codings_of}
use Rattle.whitebox.specs.Parts.{parts_for}
use Rattle.whitebox.specs.Tables.{table_of}

-- All tables for the cipher c of nr rounds, one after the other, from the round keys w and the bundle l.
abbrev pub tables_made : ℕ → ℕ → List ℕ → List ℕ → List ℕ
tables_made c nr w l = concat (lookups nr) (table_of (parts_for c nr w) (codings_of nr l) nr)
