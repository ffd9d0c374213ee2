-- A chain of calls in code: "each move or fetch gets the walk that the call before it handed back or left". What each call did is known by its
-- contract alone (Promises.antt). Definitions, and the statement that a chain answers as `serve` of crate calls does; it is proved in
-- proofs/laws/Chains.antt.
use Rattle.std.specs.Prelude.{List, [], ◌∷◌, map, ◌≡◌, ℕ}
use Rattle.answers.specs.Answers.{reply_of}
use Rattle.layout.specs.Stages.{nowhere}
use Rattle.calls.specs.Calls.{Call, to_stop, one_lookup, fetch, Served, serve, last_walk}
use Rattle.evaluate.specs.Held.{held}
use Rattle.evaluate.specs.Promises.{Moves, Fetches}
use Rattle.evaluate.specs.declared.walk.Move.{Move}
use Rattle.evaluate.specs.declared.walk.Walk.{Walk}
use Rattle.answers.specs.Answer.{Answer}

-- A call that was made, with what came of it.
pub data CallMade : Type 0 where
  -- `move_to`: the lent memory, the stop, what is handed back.
  move_to : List ℕ → ℕ → Move → CallMade
  -- `move_one`: the lent table, what is handed back.
  move_one : List ℕ → Move → CallMade
  -- `fetch`: the lent block, the answer, the block afterwards.
  fetched : List ℕ → Answer → List ℕ → CallMade

-- Which call it is.
abbrev pub call_of : CallMade → Call
call_of (move_to set stop r) = to_stop set stop
call_of (move_one table r) = one_lookup table
call_of (fetched lent r left) = fetch lent

-- The walk that the next call gets: what a move handed back; a fetch leaves the walk with the caller.
abbrev pub walk_after : Walk → CallMade → Walk
walk_after w (move_to set stop r) = r.walk
walk_after w (move_one table r) = r.walk
walk_after w (fetched lent r left) = w

-- The last walk behind calls one after the other, from the walk w on.
abbrev pub last_in : Walk → List CallMade → Walk
last_in w [] = w
last_in w (m ∷ ms) = last_in (walk_after w m) ms

module _ (nr : ℕ) where
  -- What it answered: the reply in document 01's numbers, the walk held afterwards, the offset passed on, the lent block afterwards. A move is lent no
  -- block; a fetch hands back no offset, and `nowhere` stands in its place.
  abbrev pub served_by : Walk → CallMade → Served
  served_by w (move_to set stop r) = record { reply = reply_of r.answer; walk = held r.walk; offset = r.offset; block = [] }
  served_by w (move_one table r) = record { reply = reply_of r.answer; walk = held r.walk; offset = r.offset; block = [] }
  served_by w (fetched lent r left) = record { reply = reply_of r; walk = held w; offset = nowhere nr; block = left }

  -- The same of calls one after the other, from the walk w on.
  abbrev pub served_in : Walk → List CallMade → List Served
  served_in w [] = []
  served_in w (m ∷ ms) = served_by w m ∷ served_in (walk_after w m) ms

  -- The call meets its contract.
  abbrev pub Meets : Walk → CallMade → Type 0
  Meets w (move_to set stop r) = Moves nr (to_stop set stop) w r
  Meets w (move_one table r) = Moves nr (one_lookup table) w r
  Meets w (fetched lent r left) = Fetches nr lent w r left

  -- Each call does, at the walk that it gets.
  abbrev pub Chain : Walk → List CallMade → Type 0
  Chain w [] = Unit {0}
  Chain w (m ∷ ms) = Meets w m × Chain (walk_after w m) ms

  -- A chain of any length, from any walk, over any memory: what its calls answer is what demand 3 has that list of calls answer, and the last
  -- walk is the one that it says.
  pub record Serves (w : Walk) (ms : List CallMade) : Type 0 where
    pub answers : served_in w ms ≡ serve nr (held w) (map call_of ms)
    pub last : held (last_in w ms) ≡ last_walk nr (held w) (map call_of ms)

  abbrev pub ChainServes : Type 0
  ChainServes = (w : Walk) (ms : List CallMade) → Chain w ms → Serves w ms
