-- THE PLACE THAT WAS READ, document 02, Ticket 2, for a reader; proved in proofs/laws/PlaceRead.antt. Of any walk, any memory, any number of rounds and either
-- cipher: what a lookup puts into the area is what stands in the set at the place that it reads, and the offset that a move passes on is that of its last
-- lookup. That it lies in that lookup's table is said here of bytes; of the calls in code, whose arrays are of bytes, evaluate/specs/PlaceRead.antt says it.
use Rattle.std.specs.Prelude.{List, ◌≡◌, ℕ, suc, ◌+◌, ◌-◌, ◌≤◌, ◌<◌, length}
use Rattle.answers.specs.Answers.{accepted}
use Rattle.bits.specs.Bytes.{Bytes}
use Rattle.network.specs.Lookups.{State}
use Rattle.network.specs.Read.{lookup_from}
use Rattle.network.specs.Theorems.{WithinTable}
use Rattle.network.specs.declared.EntryPlace.{EntryPlace}
use Rattle.layout.specs.Ciphers.{reads_of}
use Rattle.layout.specs.Stages.{width_of, shape_at, lookups, tables_bytes, set_bytes, nowhere, table_size, table_offset, stage_of, index_of}
use Rattle.calls.specs.Calls.{Held, table_part, to_stop, one_lookup, Call, step, read_next, place_read, reply, handed, passed_on}

-- Standing bytes and area are bytes. A "byte" of 300 would read past its table.
pub record OfBytes (s : State) : Type 0 where
  pub standing : Bytes s.standing
  pub area : Bytes s.area

-- ---- one lookup, from the state before it
-- "Each look-up shall hand back, besides its value, the byte offset within the set of the entry it read. It also says which half": what the lookup leaves is
-- worked out from the entry at that place of the memory, and the entry lies in the lookup's table.
pub record Lookup (reads : ℕ → ℕ) (nr : ℕ) (mem : List ℕ) (s : State) : Type 0 where
  pub value : step reads nr (table_part nr mem s.count) s ≡ lookup_from (shape_at reads (stage_of nr s.count)) (index_of nr s.count) mem (read_next reads nr s) s
  pub table : WithinTable (width_of (stage_of nr s.count)) (index_of nr s.count) (table_offset nr s.count) (read_next reads nr s)

abbrev pub LookupsRead : Type 0
LookupsRead = (reads : ℕ → ℕ) (nr : ℕ) (mem : List ℕ) (s : State) → OfBytes s → s.count < lookups nr → Lookup reads nr mem s

-- ---- moves: "the walk passes on the offset of its last look-up"
-- The offset o is one in table k, and so one of the tables' bytes, which the number that tells of no lookup is not. `WithinTable` of crate network says the
-- same of a whole entry; a call passes on the offset alone.
pub record InTable (nr k o : ℕ) : Type 0 where
  pub least : table_offset nr k ≤ o
  pub most : o < table_offset nr k + table_size nr k
  pub somewhere : o < tables_bytes nr

-- An accepted move to a stop behind the count made lookup stop - 1 last. It passes on where that one reads in the walk before it, which a move to
-- stop - 1 hands back.
pub record LastRead (nr : ℕ) (mem : List ℕ) (stop : ℕ) (w : Held) : Type 0 where
  pub count : (handed nr (to_stop mem stop) w).state.count ≡ stop
  pub before_reply : reply nr (to_stop mem (stop - 1)) w ≡ accepted
  pub before_count : suc (handed nr (to_stop mem (stop - 1)) w).state.count ≡ stop
  pub last : passed_on nr (to_stop mem stop) w ≡ (place_read nr (handed nr (to_stop mem (stop - 1)) w)).offset
  pub inside : Bytes mem → OfBytes w.state → InTable nr (stop - 1) (passed_on nr (to_stop mem stop) w)

abbrev pub MovesPassOn : Type 0
MovesPassOn =
    (nr : ℕ) (mem : List ℕ) (stop : ℕ) (w : Held) → reply nr (to_stop mem stop) w ≡ accepted → w.state.count < stop → LastRead nr mem stop w

-- The place that the next lookup of a walk reads, within its table alone.
abbrev pub place_in_table : ℕ → Held → EntryPlace
place_in_table nr w = record { offset = (place_read nr w).offset - table_offset nr w.state.count; half = (place_read nr w).half }

-- An accepted move of one lookup passes on where the count's lookup reads in the walk given: as a move to the count plus one over any memory of a set's
-- length does. What its lookup leaves is worked out from the entry at that place of the lent table.
pub record OneRead (nr : ℕ) (table : List ℕ) (w : Held) : Type 0 where
  pub count : (handed nr (one_lookup table) w).state.count ≡ suc w.state.count
  pub last : passed_on nr (one_lookup table) w ≡ (place_read nr w).offset
  pub inside : OfBytes w.state → InTable nr w.state.count (passed_on nr (one_lookup table) w)
  pub whole : (mem : List ℕ) → length mem ≡ set_bytes nr → passed_on nr (one_lookup table) w ≡ passed_on nr (to_stop mem (suc w.state.count)) w
  pub value : OfBytes w.state → step (reads_of w.mark.cipher) nr table w.state
      ≡ lookup_from (shape_at (reads_of w.mark.cipher) (stage_of nr w.state.count)) (index_of nr w.state.count) table (place_in_table nr w) w.state

abbrev pub OnePassesOn : Type 0
OnePassesOn = (nr : ℕ) (table : List ℕ) (w : Held) → reply nr (one_lookup table) w ≡ accepted → OneRead nr table w

-- "And 770,048 when it has made none in that call": a refused call, and a move to the count itself.
pub record NoneRead (nr : ℕ) (w : Held) : Type 0 where
  pub refused : (c : Call) → (reply nr c w ≡ accepted → ⊥) → passed_on nr c w ≡ nowhere nr
  pub still : (mem : List ℕ) → passed_on nr (to_stop mem w.state.count) w ≡ nowhere nr

abbrev pub NonePassedOn : Type 0
NonePassedOn = (nr : ℕ) (w : Held) → NoneRead nr w

-- ---- All of them.
pub record PlaceWasRead : Type 0 where
  pub lookups : LookupsRead
  pub moves : MovesPassOn
  pub one : OnePassesOn
  pub none : NonePassedOn
