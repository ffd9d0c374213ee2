-- What this crate's functions ask and leave, below the one for a whole stage or half. Definitions only.
use Rattle.std.specs.Prelude.{List, ◌++◌, ◌≡◌, ℕ, ◌+◌, ◌*◌, ◌/◌, ◌%◌, ◌≤◌, ◌<◌, length, take, drop}
use Rattle.bits.specs.Bytes.{bytes_of}
use Rattle.bits.specs.Lists.{at, concat}
use Rattle.bits.specs.Nibbles.{half, nibble, pack}
use Rattle.network.specs.Lookups.{Shape}
use Rattle.network.specs.Sizes.{layer_bytes}
use Rattle.lookups.specs.InPlace.{Width, xor_byte}
use Rattle.lookups.specs.Layer.{spreads_in, xors_in}
use Rattle.layer_record.specs.Entries.{offset_bytes, entry_size, written}
use Rattle.layer_record.specs.Layer.{spread_entry, xor_entry}

-- ---- what they ask
-- The tables of a stage or half of width m, from byte `from` on, lie in memory of the given length.
pub record XorsAsked (m from long : ℕ) : Type 0 where
  pub width : Width m
  pub room : from + layer_bytes m ≤ long

-- Two bytes of an area, the two tables of the first, one behind the other from byte `start` of the set, and memory for two entries.
pub record ByteAsked (sum added start : ℕ) (set d : List ℕ) : Type 0 where
  pub first : sum < 256
  pub second : added < 256
  pub tables : start + 256 ≤ length set
  pub memory : length d ≡ 2 * entry_size

-- ---- what they leave
-- The XOR table that begins at byte `start` of the set, and what is recorded of its entry e.
abbrev pub table_at : List ℕ → ℕ → List ℕ
table_at set start = take 128 (drop start set)

abbrev pub nibble_entry : List ℕ → ℕ → ℕ → List ℕ
nibble_entry set start e = written (record { offset = start + e / 2; value = half (e % 2) (at set (start + e / 2)) })

-- Entry e of that table is v, and its offset is written.
pub record OffsetPut (set : List ℕ) (start e v : ℕ) (left : List ℕ) : Type 0 where
  pub value : v ≡ nibble (table_at set start) e
  pub below : v < 16
  pub bytes : left ≡ bytes_of offset_bytes (start + e / 2)

-- Two XOR lookups, of the nibbles of two bytes, turn the area a into a', and `left` is what is recorded of both.
pub record ByteRecorded (set : List ℕ) (start sum added : ℕ) (a a' left : List ℕ) : Type 0 where
  pub area : a' ≡ xor_byte (table_at set start) (table_at set (start + 128)) sum added a
  pub bytes : left
      ≡ nibble_entry set start (pack (at a sum / 16) (at a added / 16)) ++ nibble_entry set (start + 128) (pack (at a sum % 16) (at a added % 16))

-- The k XOR lookups from lookup x on turn the area a into a', and `left` is what is recorded of them.
pub record XorsRecorded (m : ℕ) (set : List ℕ) (from x k : ℕ) (a a' left : List ℕ) : Type 0 where
  pub area : a' ≡ xors_in m set from x k a
  pub bytes : left ≡ concat k (xor_entry m set from x a)

-- All spread lookups do, from standing bytes s.
pub record SpreadsRecorded (S : Shape) (set : List ℕ) (from : ℕ) (s a a' left : List ℕ) : Type 0 where
  pub area : a' ≡ spreads_in S set from s 16 a
  pub bytes : left ≡ concat 16 (spread_entry S set from s a)
