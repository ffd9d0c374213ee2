-- One lookup over the memory of a set, by its place and by its number: what is asked and what is made. Definitions only.
use Rattle.std.specs.Prelude.{List, ◌≡◌, ℕ, suc, ◌+◌, ◌≤◌, ◌<◌, length, take, drop}
use Rattle.network.specs.Lookups.{state_at}
use Rattle.network.specs.declared.EntryPlace.{EntryPlace}
use Rattle.layout.specs.Stages.{width_of, shape_at, lookups, set_bytes, stage_of, index_of}
use Rattle.layout.specs.declared.stage.Place.{Place}
use Rattle.rounds.specs.Rounds.{Rounds}
use Rattle.calls.specs.Calls.{advance, read_next}
use Rattle.calls.specs.PlaceRead.{InTable}
use Rattle.lookups.specs.InPlace.{Fits, LookedUp}
use Rattle.passes.specs.declared.Lookup.{Lookup}

-- The place that was read, in what is told of a lookup.
abbrev pub place_told : Lookup → EntryPlace
place_told r = record { offset = r.offset; half = r.half }

-- ---- by its place
-- The place p is that of a lookup, and its table lies in memory of the given length.
pub record StandsIn (p : Place) (long : ℕ) : Type 0 where
  pub fits : Fits p.stage p.index p.offset p.size
  pub ends : p.offset + p.size ≤ long

-- The lookup at the place p over its table in the memory `set`, where position q of a first half or of the exit reads byte `reads q`: r tells the place that it
-- reads, its number in its stage or half and the bytes of a word there, and it turns standing bytes s and area a into s' and a'.
pub record MadeAt (reads : ℕ → ℕ) (set : List ℕ) (p : Place) (s a : List ℕ) (r : Lookup) (s' a' : List ℕ) : Type 0 where
  pub made : LookedUp (shape_at reads p.stage) p.index (take p.size (drop p.offset set)) p.offset s a (place_told r) s' a'
  pub index : r.index ≡ p.index
  pub width : r.width ≡ width_of p.stage

-- ---- by its number
-- What it asks: memory of the length of a set of nr rounds, and a lookup n of that set.
pub record LookupAsked (nr : ℕ) (set : List ℕ) (n : ℕ) : Type 0 where
  pub sized : length set ≡ set_bytes nr
  pub within : n < lookups nr
  pub rounds : Rounds nr

-- Lookup n over the memory `set`, of nr rounds, where position p of a first half or of the exit reads byte `reads p`: r tells the place that it reads, which lies
-- in its table, its number in its stage or half and the bytes of a word there, and it turns standing bytes s and area a into s' and a'.
pub record LookupMade (reads : ℕ → ℕ) (nr : ℕ) (set : List ℕ) (n : ℕ) (s a : List ℕ) (r : Lookup) (s' a' : List ℕ) : Type 0 where
  pub place : place_told r ≡ read_next reads nr (state_at n s a)
  pub inside : InTable nr n r.offset
  pub half : r.half ≤ 1
  pub index : r.index ≡ index_of nr n
  pub width : r.width ≡ width_of (stage_of nr n)
  pub walk : advance reads nr set 1 (state_at n s a) ≡ state_at (suc n) s' a'
