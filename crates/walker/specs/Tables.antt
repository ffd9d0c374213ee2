-- A walk over the tables that are read, one lookup at a time: document 01, "Programs", "The walker reads a block, then a set to the end of the input,
-- holding one table". No contract can say which bytes a read gives, so a contract says that there are such tables. The mark `Received` on them says nothing
-- more: it shows in the proofs that they come from reads (crate streams, specs/Received.antt). Definitions only.
use Rattle.std.specs.Prelude.{List, [], ◌∷◌, map, ◌≡◌, ℕ, ◌≤◌, ◌<◌, length, take}
use Rattle.answers.specs.declared.Refusal.{Refusal}
use Rattle.answers.specs.declared.Refusal.TheVariants.{SetLength}
use Rattle.layout.specs.Stages.{lookups, table_size}
use Rattle.calls.specs.Calls.{Held, one_lookup, answer, handed, last_walk}
use Rattle.evaluate.specs.Promises.{Moves}
use Rattle.evaluate.specs.declared.walk.Move.{Move}
use Rattle.evaluate.specs.declared.walk.Walk.{Walk}
use Rattle.streams.specs.Received.{Received, AllReceived}
use Rattle.answers.specs.Answer.{Answer, Accepted, Refused}

-- Room for the largest table: "16 spread tables of 4,096 bytes".
abbrev pub table_room : ℕ
table_room = 4096

-- Over nr rounds.
module _ (nr : ℕ) where
  -- One lookup, over what was read for its table: the first `got` bytes of the memory `left`, no more than that table's bytes.
  pub record Next (w : Walk) (r : Move) (left : List ℕ) : Type 0 where
    pub got : ℕ
    pub read : Received (take got left)
    pub most : got ≤ table_size nr w.count
    pub within : got ≤ length left
    pub moves : Moves nr (one_lookup (take got left)) w r

  -- Moves of one lookup over the tables, one after the other, are all accepted.
  abbrev pub AllAccepted : Held → List (List ℕ) → Type 0
  AllAccepted w [] = Unit {0}
  AllAccepted w (t ∷ ts) = (answer nr (one_lookup t) w ≡ Accepted) × AllAccepted (handed nr (one_lookup t) w) ts

  -- They took the walk w to w'.
  pub record OverTables (w w' : Held) : Type 0 where
    pub tables : List (List ℕ)
    pub read : AllReceived tables
    pub accepted : AllAccepted w tables
    pub walk : w' ≡ last_walk nr w (map one_lookup tables)

  -- The next table is refused for its length, for it is too short: 9, "set or single table of wrong length".
  pub record Short (w : Held) (r : Refusal) : Type 0 where
    pub table : List ℕ
    pub read : Received table
    pub less : length table < table_size nr w.state.count
    pub answer : answer nr (one_lookup table) w ≡ Refused r
    pub cause : r ≡ SetLength

  -- The walk over the input: all lookups are made, or a table was too short. A refused move leaves the walk.
  pub record OverInput (w : Held) (a : Answer) (w' : Held) : Type 0 where
    pub over : OverTables w w'
    pub whole : a ≡ Accepted → w.state.count ≤ lookups nr → w'.state.count ≡ lookups nr
    pub short : (r : Refusal) → a ≡ Refused r → Short w' r
