-- The record of a walk: document 02, Ticket 3. "Benches now record a walk: 3,008 entries, each an offset in 4 bytes, most significant first, then the entry's
-- first byte, or its half-byte as a number 0 to 15." Over any memory, any block, any number nr of rounds and either cipher. Definitions only.
use Rattle.std.specs.Prelude.{List, ℕ, ◌*◌}
use Rattle.bits.specs.Lists.{concat, part_of}
use Rattle.network.specs.Lookups.{State}
use Rattle.layout.specs.Ciphers.{reads_of}
use Rattle.layout.specs.Stages.{lookups, ten_lookups, index_of}
use Rattle.calls.specs.Calls.{state_from, read_next}
use Rattle.layer_record.specs.Entries.{Entry, entry_size, written, entry_read}

-- ---- an entry of a record
-- What is recorded of the lookup of the state's count, in a walk over the memory of a set.
abbrev pub entry_next : (ℕ → ℕ) → ℕ → List ℕ → State → Entry
entry_next reads nr mem s = entry_read (index_of nr s.count) mem (read_next reads nr s)

-- ---- the record of the walk for the cipher c, from a block, over the memory `set`
module _ (c nr : ℕ) (set block : List ℕ) where
  -- The walk's state after k lookups.
  abbrev pub walk_at : ℕ → State
  walk_at k = state_from (reads_of c) nr set block k

  -- The bytes that are recorded of lookup k.
  abbrev pub entry_at : ℕ → List ℕ
  entry_at k = written (entry_next (reads_of c) nr set (walk_at k))

  -- One entry for each lookup, in order.
  unfoldable pub record_of : List ℕ
  record_of = concat (lookups nr) entry_at

-- Its bytes, of nr rounds and, as the number that the code has, of ten.
abbrev pub record_bytes : ℕ → ℕ
record_bytes nr = lookups nr * entry_size

abbrev pub ten_record_bytes : ℕ
ten_record_bytes = ten_lookups * entry_size

-- Entry k of any record.
abbrev pub entry_in : List ℕ → ℕ → List ℕ
entry_in rec k = part_of entry_size rec k
