-- THE PLACE THAT WAS READ, OF THE CODE (document 02, Ticket 2), for a reader. Crate calls states it of definitions, in its specs/PlaceRead.antt; here it is
-- stated of a lookup that meets the contract of lookups::layer::lookup_in, which hands back offset and half, and of moves that meet the contracts of
-- src/walk.rt (Promises.antt), which pass on the offset. Each statement is a type; proofs/laws/PlaceRead.antt proves them.
use Rattle.std.specs.Prelude.{List, ◌≡◌, ℕ, suc, ◌-◌, ◌<◌, length}
use Rattle.network.specs.Lookups.{state_at}
use Rattle.network.specs.Read.{lookup_from}
use Rattle.network.specs.declared.EntryPlace.{EntryPlace}
use Rattle.layout.specs.Ciphers.{reads_of}
use Rattle.layout.specs.Stages.{shape_at, lookups, set_bytes, nowhere, table_offset, stage_of, index_of}
use Rattle.calls.specs.Calls.{table_part, Call, to_stop, one_lookup, place_read}
use Rattle.calls.specs.PlaceRead.{InTable}
use Rattle.lookups.specs.InPlace.{LookedUp}
use Rattle.evaluate.specs.Held.{held}
use Rattle.evaluate.specs.Promises.{Moves}
use Rattle.evaluate.specs.declared.walk.Move.{Move}
use Rattle.evaluate.specs.declared.walk.Walk.{Walk}
use Rattle.answers.specs.Answer.{Accepted}

module _ (nr : ℕ) where
  -- ---- the lookup of the walk's count, over its table in a memory of any length and content
  -- The place r that it hands back, offset and half, is the one that the definitions give, it lies in the lookup's table, and the standing bytes s and the
  -- area a that the lookup leaves are worked out from the entry there.
  pub record PlaceMade (mem : List ℕ) (w : Walk) (r : EntryPlace) (s a : List ℕ) : Type 0 where
    pub place : r ≡ place_read nr (held w)
    pub inside : InTable nr w.count r.offset
    pub value : state_at (suc w.count) s a
        ≡ lookup_from (shape_at (reads_of w.cipher) (stage_of nr w.count)) (index_of nr w.count) mem r (held w).state

  abbrev pub LookupsMade : Type 0
  LookupsMade =
      (mem : List ℕ) (w : Walk) (r : EntryPlace) (s a : List ℕ) → w.count < lookups nr
      → LookedUp (shape_at (reads_of w.cipher) (stage_of nr w.count)) (index_of nr w.count) (table_part nr mem w.count) (table_offset nr w.count)
      w.standing w.area r s a
      → PlaceMade mem w r s a

  -- ---- an accepted move r to a stop behind the count, and a move b to the stop before it
  pub record LastMade (stop : ℕ) (r b : Move) : Type 0 where
    pub answer : b.answer ≡ Accepted
    pub count : suc b.walk.count ≡ stop
    -- What r passes on is where the lookup of b's count reads in b's walk, and it lies in that lookup's table.
    pub offset : r.offset ≡ (place_read nr (held b.walk)).offset
    pub inside : InTable nr b.walk.count r.offset

  abbrev pub MovesMade : Type 0
  MovesMade =
      (mem : List ℕ) (stop : ℕ) (w : Walk) (r b : Move) → Moves nr (to_stop mem stop) w r → r.answer ≡ Accepted → w.count < stop
      → Moves nr (to_stop mem (stop - 1)) w b → LastMade stop r b

  -- ---- an accepted move r of one lookup, and a move m to the count plus one over any memory of a set's length
  pub record OneMade (w : Walk) (r m : Move) : Type 0 where
    pub offset : r.offset ≡ (place_read nr (held w)).offset
    pub inside : InTable nr w.count r.offset
    pub same : r.offset ≡ m.offset

  abbrev pub SingleMovesMade : Type 0
  SingleMovesMade =
      (table mem : List ℕ) (w : Walk) (r m : Move) → Moves nr (one_lookup table) w r → r.answer ≡ Accepted
      → length mem ≡ set_bytes nr → Moves nr (to_stop mem (suc w.count)) w m → OneMade w r m

  -- ---- a move r that made no lookup: it is refused, or its stop is the count
  pub record NoneMade (w : Walk) (r : Move) : Type 0 where
    pub refused : (c : Call) → Moves nr c w r → (r.answer ≡ Accepted → ⊥) → r.offset ≡ nowhere nr
    pub still : (mem : List ℕ) → Moves nr (to_stop mem w.count) w r → r.offset ≡ nowhere nr

  abbrev pub NoLookupMade : Type 0
  NoLookupMade = (w : Walk) (r : Move) → NoneMade w r

  -- ---- All of them.
  pub record PlacesMade : Type 0 where
    pub lookups : LookupsMade
    pub moves : MovesMade
    pub single : SingleMovesMade
    pub none : NoLookupMade
