-- An entry of a record: document 02, Ticket 3. "Each an offset in 4 bytes, most significant first, then the entry's first byte, or its half-byte as a number 0 to
-- 15." Definitions only.
use Rattle.std.specs.Prelude.{cond, List, [], ◌∷◌, ◌++◌, ℕ, ◌+◌, ltb}
use Rattle.bits.specs.Bytes.{bytes_of}
use Rattle.bits.specs.Lists.{at}
use Rattle.bits.specs.Nibbles.{half}
use Rattle.network.specs.declared.EntryPlace.{EntryPlace}

-- Before it is written: the byte offset within the set, and the first byte of a spread entry or the nibble of an XOR entry.
pub record Entry : Type 0 where
  pub offset : ℕ
  pub value : ℕ

-- The bytes of its offset, and all of its bytes.
abbrev pub offset_bytes : ℕ
offset_bytes = 4

abbrev pub entry_size : ℕ
entry_size = offset_bytes + 1

-- "An offset in 4 bytes, most significant first, then" the value.
abbrev pub written : Entry → List ℕ
written e = bytes_of offset_bytes e.offset ++ (e.value ∷ [])

-- What is recorded of the place r of a memory that lookup j of a layer reads. The first 16 lookups of a layer read spread entries, and of these it is "the
-- entry's first byte"; of an XOR entry it is "its half-byte".
abbrev pub entry_read : ℕ → List ℕ → EntryPlace → Entry
entry_read j mem r = record { offset = r.offset; value = cond (ltb j 16) (at mem r.offset) (half r.half (at mem r.offset)) }
