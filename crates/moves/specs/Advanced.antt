-- What the functions of this crate ask and leave. Definitions only.
use Rattle.std.specs.Prelude.{List, ◌≡◌, ℕ, ◌-◌, ◌≤◌, ◌<◌, length}
use Rattle.network.specs.Lookups.{state_at}
use Rattle.layout.specs.Stages.{lookups, set_bytes}
use Rattle.rounds.specs.Rounds.{Rounds}
use Rattle.calls.specs.Calls.{advance, last_offset}
use Rattle.calls.specs.PlaceRead.{InTable}

-- What a move from count n asks: memory of the length of a set of nr rounds, and a stop of the set that is not before the count.
pub record MoveAsked (nr : ℕ) (set : List ℕ) (n stop : ℕ) : Type 0 where
  pub sized : length set ≡ set_bytes nr
  pub not_behind : n ≤ stop
  pub stop_within : stop ≤ lookups nr
  pub rounds : Rounds nr

module _ (reads : ℕ → ℕ) (nr : ℕ) (set : List ℕ) (n : ℕ) where
  -- Over nr rounds, where the row shift reads the byte `reads`: the lookups from count n up to count r turn
  -- standing bytes s and area a into s' and a', and o is the offset of the last, in its table, or tells that there is none.
  pub record Advanced (r o : ℕ) (s a s' a' : List ℕ) : Type 0 where
    pub walk : advance reads nr set (r - n) (state_at n s a) ≡ state_at r s' a'
    pub offset : o ≡ last_offset reads nr set (r - n) (state_at n s a)
    pub inside : n < r → InTable nr (r - 1) o

  -- A part of a move, whether it makes one lookup or a whole stage or half: at least one, and none behind the stop.
  pub record PartMade (stop r o : ℕ) (s a s' a' : List ℕ) : Type 0 where
    pub more : n < r
    pub most : r ≤ stop
    pub made : Advanced r o s a s' a'
