-- The starred cases of document 01 that are about the layout of a set, and one number of document 02. They are proved in proofs/laws/Cases.antt.
use Rattle.std.specs.Prelude.{◌≡◌}
use Rattle.layout.specs.Stages.{shifted, lookups, tables_bytes, set_bytes, nowhere, encodings, table_offset}

pub record Starred : Type 0 where
  -- "Position 1 reads byte 5, position 13 reads byte 1."
  pub position_1 : shifted 1 ≡ 5
  pub position_13 : shifted 13 ≡ 1
  -- "Table 16 starts at 65,536; table 496 at 126,976; table 3,007 at 769,920."
  pub table_16 : table_offset 10 16 ≡ 65536
  pub table_496 : table_offset 10 496 ≡ 126976
  pub table_3007 : table_offset 10 3007 ≡ 769920
  -- "The 3,008 look-ups", "the set is 770,048 bytes", "6,048 lists".
  pub all_lookups : lookups 10 ≡ 3008
  pub table_bytes : tables_bytes 10 ≡ 770048
  pub all_bytes : set_bytes 10 ≡ 770048
  pub all_encodings : encodings 10 ≡ 6048
  -- "770,048 when it has made none in that call" (document 02, Ticket 2).
  pub no_lookup : nowhere 10 ≡ 770048
