-- The calls over a held walk: start, move to a stop, move of one lookup, fetch. Each is total: on any walk, any lent memory and any number.
-- What is turned down is read off document 01's table "Turned down"; the plain count is written apart, in PlainCount.antt, and they are
-- proved to agree. Definitions only.
use Rattle.std.specs.Prelude.{not, cond, ◌||◌, List, [], ◌∷◌, ℕ, zero, suc, ◌-◌, eqb, ltb, length, take, drop, replicate}
use Rattle.answers.specs.Answers.{Reply, reply_of, refused_if, wants_length, and_then, if_accepted}
use Rattle.answers.specs.declared.Refusal.TheVariants.{SetLength, BlockLength, Stop, Unfinished}
use Rattle.network.specs.Lookups.{State, state_at, zero_area, lookup}
use Rattle.network.specs.Read.{read_at}
use Rattle.network.specs.declared.EntryPlace.{EntryPlace}
use Rattle.layout.specs.Ciphers.{kept, reads_of}
use Rattle.layout.specs.Stages.{shapes, lookups, set_bytes, nowhere, table_size, table_offset}
use Rattle.answers.specs.Answer.{Answer, Refused}

-- ---- the held walk
-- What a walk keeps beside its state, and no lookup changes: its mark, the number of its cipher.
pub record Mark : Type 0 where
  pub cipher : ℕ

-- The mark of a walk that is started for the cipher c: "a held walk keeps it as 0 or 1" (document 02, Ticket 1).
abbrev pub marked : ℕ → Mark
marked c = record { cipher = kept c }

-- What an accepted move makes of a mark: "any other number there acts as 1, which an accepted move hands back".
abbrev pub kept_mark : Mark → Mark
kept_mark m = marked m.cipher

-- What lookups change of a walk is its state.
pub record Held : Type 0 where
  pub mark : Mark
  pub state : State

abbrev pub holding : Mark → State → Held
holding m s = record { mark = m; state = s }

-- What an accepted move makes of a walk, whose state it changes by f.
abbrev pub changed : (State → State) → Held → Held
changed f w = holding (kept_mark w.mark) (f w.state)

-- ---- start
-- 10: "block not 16 bytes, in or out".
unfoldable pub judge_start : ℕ → Answer
judge_start len = wants_length 16 len BlockLength

-- A walk of zeros only.
abbrev pub zero_held : Held
zero_held = holding (record { cipher = 0 }) (state_at 0 (replicate 16 0) zero_area)

-- "At the start the standing bytes are the presented block and the area is zero." "A refused start hands back a walk of zeros only." The start names the
-- cipher c.
unfoldable pub started : ℕ → List ℕ → Held
started c block = if_accepted (judge_start (length block)) (holding (marked c) (state_at 0 block zero_area)) zero_held

-- ---- what is turned down, from lengths, the stop and the count
-- By a call that is lent a whole set and a block: 9, "set [..] of wrong length", then 10. "The lowest number that applies is given."
unfoldable pub judge_whole : ℕ → ℕ → ℕ → Answer
judge_whole nr setLen block_len = and_then (wants_length (set_bytes nr) setLen SetLength) (wants_length 16 block_len BlockLength)

-- 9: "set or single table of wrong length"; 11: "stop above 3,008 or below the count".
unfoldable pub judge_stop : ℕ → ℕ → ℕ → ℕ → Answer
judge_stop nr len stop count = and_then (wants_length (set_bytes nr) len SetLength) (refused_if (ltb (lookups nr) stop || ltb stop count) Stop)

-- "A walk can also be moved one look-up with only that table lent; its stop is the count plus one. At a count of 3,008 or more that move
-- gives 11 for a table of any length."
unfoldable pub judge_one : ℕ → ℕ → ℕ → Answer
judge_one nr len count = cond (ltb count (lookups nr)) (wants_length (table_size nr count) len SetLength) (Refused Stop)

-- 10: "block not 16 bytes, in or out"; 12: "answer fetched at a count other than 3,008".
unfoldable pub judge_fetch : ℕ → ℕ → ℕ → Answer
judge_fetch nr len count = and_then (wants_length 16 len BlockLength) (refused_if (not (eqb count (lookups nr))) Unfinished)

-- ---- the calls
pub data Call : Type 0 where
  -- A move to a stop: the lent memory, the stop.
  to_stop : List ℕ → ℕ → Call
  -- A move of one lookup: the lent table.
  one_lookup : List ℕ → Call
  -- A fetch: the lent block.
  fetch : List ℕ → Call

-- The part of a set's memory that is table k.
abbrev pub table_part : ℕ → List ℕ → ℕ → List ℕ
table_part nr mem k = take (table_size nr k) (drop (table_offset nr k) mem)

-- `reads` is the byte that a position of a first half or of the exit reads.
module _ (reads : ℕ → ℕ) (nr : ℕ) where
  -- One lookup over the table t.
  abbrev pub step : List ℕ → State → State
  step t s = lookup (shapes reads nr) t s

  -- n lookups over the set's memory, each over the part that its table is.
  unfoldable pub advance : List ℕ → ℕ → State → State
  advance mem zero s = s
  advance mem (suc n) s = advance mem n (step (table_part nr mem s.count) s)

  -- The state after k lookups over the set's memory, from a presented block. "At the start the standing bytes are the presented block and the area is zero."
  abbrev pub state_from : List ℕ → List ℕ → ℕ → State
  state_from mem block k = advance mem k (state_at 0 block zero_area)

  -- The place in a set that the lookup of the state's count reads.
  abbrev pub read_next : State → EntryPlace
  read_next s = read_at (shapes reads nr) s.count (table_offset nr s.count) s.standing s.area

  -- What n lookups pass on: "the offset of its last look-up, and 770,048 when it has made none" (document 02, Ticket 2).
  unfoldable pub last_offset : List ℕ → ℕ → State → ℕ
  last_offset mem zero s = nowhere nr
  last_offset mem (suc n) s = (read_next (advance mem n s)).offset

-- The calls on a walk, whose lookups read as its cipher does.
module _ (nr : ℕ) where
  unfoldable pub answer : Call → Held → Answer
  answer (to_stop mem stop) w = judge_stop nr (length mem) stop w.state.count
  answer (one_lookup mem) w = judge_one nr (length mem) w.state.count
  answer (fetch block) w = judge_fetch nr (length block) w.state.count

  -- The same in document 01's numbers.
  abbrev pub reply : Call → Held → Reply
  reply c w = reply_of (answer c w)

  -- The walk handed back, or left: a refused call leaves it as it was, and so does a fetch.
  unfoldable pub handed : Call → Held → Held
  handed (to_stop mem stop) w =
      let reads = reads_of w.mark.cipher in
      if_accepted (judge_stop nr (length mem) stop w.state.count) (changed (advance reads nr mem (stop - w.state.count)) w) w
  handed (one_lookup mem) w = if_accepted (judge_one nr (length mem) w.state.count) (changed (step (reads_of w.mark.cipher) nr mem) w) w
  handed (fetch block) w = w

  -- The place that the next lookup of a walk reads.
  abbrev pub place_read : Held → EntryPlace
  place_read w = read_next (reads_of w.mark.cipher) nr w.state

  -- The offset that a move passes on, of the last lookup that it made; `nowhere` if it is refused or its stop is the count. A fetch makes no lookup and
  -- hands back no offset; `nowhere` stands for it here.
  unfoldable pub passed_on : Call → Held → ℕ
  passed_on (to_stop mem stop) w =
      let n = w.state.count in
      if_accepted (judge_stop nr (length mem) stop n) (last_offset (reads_of w.mark.cipher) nr mem (stop - n) w.state) (nowhere nr)
  passed_on (one_lookup mem) w = if_accepted (judge_one nr (length mem) w.state.count) (place_read w).offset (nowhere nr)
  passed_on (fetch block) w = nowhere nr

  -- The lent block afterwards: the standing bytes, or what it held. A move is lent none.
  unfoldable pub block_left : Call → Held → List ℕ
  block_left (to_stop mem stop) w = []
  block_left (one_lookup mem) w = []
  block_left (fetch block) w = if_accepted (judge_fetch nr (length block) w.state.count) w.state.standing block

-- ---- lists of calls: "each move or fetch gets the walk that the call before it handed back or left"
-- What a call answers: its reply, the walk handed back or left, the offset passed on, the lent block afterwards.
pub record Served : Type 0 where
  pub reply : Reply
  pub walk : Held
  pub offset : ℕ
  pub block : List ℕ

module _ (nr : ℕ) where
  unfoldable pub serve : Held → List Call → List Served
  serve w [] = []
  serve w (c ∷ cs) =
      record { reply = reply nr c w; walk = handed nr c w; offset = passed_on nr c w; block = block_left nr c w } ∷ serve (handed nr c w) cs

  unfoldable pub last_walk : Held → List Call → Held
  last_walk w [] = w
  last_walk w (c ∷ cs) = last_walk (handed nr c w) cs

-- ---- a whole walk: what a fetch leaves in a lent block, after one move over the memory `set` from the start for the cipher c with block x to the last count
abbrev pub walked_over : ℕ → ℕ → List ℕ → List ℕ → List ℕ → List ℕ
walked_over c nr set x lent = block_left nr (fetch lent) (handed nr (to_stop set (lookups nr)) (started c x))
