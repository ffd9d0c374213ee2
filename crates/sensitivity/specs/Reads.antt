-- The bits of a set that a walk over it reads, document 02, Ticket 7: "For any set of the right length and a block, list in rising order the bits of the set that
-- the walk reads". They are "counted from the top bit of byte 0". Over any memory, any block, any number nr of rounds and either cipher. Definitions only.
use Rattle.std.specs.Prelude.{cond, List, ℕ, ◌+◌, ◌*◌, ltb}
use Rattle.bits.specs.Lists.{tabulate, concat}
use Rattle.network.specs.declared.EntryPlace.{EntryPlace}
use Rattle.layout.specs.Stages.{width_of, lookups, stage_of, index_of}
use Rattle.calls.specs.Calls.{state_from, read_next}

-- ---- the bits of one entry
-- What a lookup leaves is worked out from the entry at the place that it reads (`Lookup` of calls/specs/PlaceRead.antt).
-- The first bit of the entry at a place of the set (Ticket 2's offset and half): a byte has 8 bits and a half of it 4, the high half first.
abbrev pub first_bit : EntryPlace → ℕ
first_bit r = 8 * r.offset + 4 * r.half

-- How many bits lookup j of a layer of width m reads: those of a word of m bytes, or of a half-byte.
abbrev pub entry_bits : ℕ → ℕ → ℕ
entry_bits m j = cond (ltb j 16) (8 * m) 4

-- The same of lookup k of a set.
abbrev pub bits_at : ℕ → ℕ → ℕ
bits_at nr k = entry_bits (width_of (stage_of nr k)) (index_of nr k)

-- ---- the bits of a walk over the memory `set`, from a presented block, where position p of a first half or of the exit reads byte `reads p`
module _ (reads : ℕ → ℕ) (nr : ℕ) (set block : List ℕ) where
  -- The first bit that lookup k reads: it goes by the state before the lookup.
  abbrev pub first_read : ℕ → ℕ
  first_read k = first_bit (read_next reads nr (state_from reads nr set block k))

  -- All that it reads, one after the other.
  abbrev pub run_at : ℕ → List ℕ
  run_at k = tabulate (bits_at nr k) (λ e. first_read k + e)

  -- All that the walk reads, lookup after lookup. That this is in rising order is a theorem (Theorems.antt).
  unfoldable pub bits_read : List ℕ
  bits_read = concat (lookups nr) run_at
