-- The numbers of document 02, Ticket 3. They are proved in proofs/laws/Proved.antt.
use Rattle.std.specs.Prelude.{◌≡◌, ◌*◌, ◌^◌, ◌≤◌}
use Rattle.layout.specs.Stages.{tables_bytes}
use Rattle.layer_record.specs.Entries.{offset_bytes, entry_size}
use Rattle.records.specs.Record.{record_bytes, ten_record_bytes}

pub record Numbers : Type 0 where
  -- "Each an offset in 4 bytes [..] then the entry's first byte, or its half-byte"; "a length other than 15,040".
  pub entry : entry_size ≡ 5
  pub bytes : record_bytes 10 ≡ 15040
  pub in_code : ten_record_bytes ≡ 15040
  -- Four bytes tell every offset in a set.
  pub four_bytes : tables_bytes 10 ≤ 2 ^ (8 * offset_bytes)
