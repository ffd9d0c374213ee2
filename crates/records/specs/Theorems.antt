-- RECORDS AND THEIR REPLAY, document 02, Ticket 3, for a reader; proved in proofs/laws/Proved.antt. Of any memory of a set's length, made or not, any block,
-- any number nr of rounds and either cipher. Each statement is a type, and the last record gathers them.
use Rattle.std.specs.Prelude.{List, ◌≡◌, ℕ, suc, ◌+◌, ◌*◌, ◌^◌, ◌≤◌, ◌<◌, length, take, Ok, Some, None}
use Rattle.answers.specs.Answers.{refused, reply_of}
use Rattle.answers.specs.Search.{FirstBad}
use Rattle.bits.specs.Bytes.{Bytes, number_of, bytes_of}
use Rattle.bits.specs.Lists.{at}
use Rattle.layout.specs.Ciphers.{kept}
use Rattle.layout.specs.Stages.{lookups, tables_bytes, set_bytes, index_of}
use Rattle.calls.specs.Calls.{to_stop, place_read}
use Rattle.calls.specs.PlaceRead.{InTable}
use Rattle.evaluate.specs.Held.{held}
use Rattle.evaluate.specs.Promises.{Opens, Moves}
use Rattle.evaluate.specs.declared.walk.Move.{Move}
use Rattle.evaluate.specs.declared.walk.Opening.{Opening}
use Rattle.layer_record.specs.Entries.{offset_bytes, entry_size, written, entry_read}
use Rattle.records.specs.Promises.{Records, Replays}
use Rattle.records.specs.Record.{entry_at, record_of, record_bytes, entry_in}
use Rattle.records.specs.Replay.{judge_record, verdict_answer, replayed}
use Rattle.records.specs.Values.{ValuesPutDown}
use Rattle.answers.specs.Answer.{Answer, Accepted}
use Rattle.records.specs.Replay.{Verdict}

-- ---- what is turned down, for a set, a block and a record of these lengths: 9 and 10 as in a walk, and "a record of a length other than 15,040 gets number 13, tested
-- after 10. With this and every later number 0 is returned"
pub record RecordTests (nr set block rec : ℕ) : Type 0 where
  pub set_first : (set ≡ set_bytes nr → ⊥) → reply_of (judge_record nr set block rec) ≡ refused 9 0
  pub block_second : set ≡ set_bytes nr → (block ≡ 16 → ⊥) → reply_of (judge_record nr set block rec) ≡ refused 10 0
  pub record_third : set ≡ set_bytes nr → block ≡ 16 → (rec ≡ record_bytes nr → ⊥) → reply_of (judge_record nr set block rec) ≡ refused 13 0
  pub none : set ≡ set_bytes nr → block ≡ 16 → rec ≡ record_bytes nr → judge_record nr set block rec ≡ Accepted

abbrev pub TestsInOrder : Type 0
TestsInOrder = (nr set block rec : ℕ) → RecordTests nr set block rec

-- A replay answers by these tests too.
abbrev pub ReplayAnswers : Type 0
ReplayAnswers = (c nr : ℕ) (set block rec : List ℕ) → verdict_answer (replayed c nr set block rec) ≡ judge_record nr (length set) (length block) (length rec)

-- "All lent memory [is] left as [it was]."
abbrev pub RefusedLeaves : Type 0
RefusedLeaves =
    (c nr : ℕ) (set block lent left : List ℕ) (a : Answer) → Records c nr set block lent a left → (a ≡ Accepted → ⊥) → left ≡ lent

-- ---- the record of a walk
pub record Shaped (c nr : ℕ) (set block : List ℕ) : Type 0 where
  pub long : length (record_of c nr set block) ≡ record_bytes nr
  -- Its entries are those of the lookups, in order.
  pub entries : (k : ℕ) → k < lookups nr → entry_in (record_of c nr set block) k ≡ entry_at c nr set block k
  -- It goes by the cipher that the number names, as a walk does.
  pub named : record_of (kept c) nr set block ≡ record_of c nr set block

abbrev pub RecordsShaped : Type 0
RecordsShaped = (c nr : ℕ) (set block : List ℕ) → Shaped c nr set block

-- ---- the replay of a record `rec`, where all lengths are right
-- A place below n where two functions differ.
pub record OtherAt (n : ℕ) (f g : ℕ → ℕ) : Type 0 where
  pub place : ℕ
  pub within : place < n
  pub other : f place ≡ g place → ⊥

module _ (c nr : ℕ) (set block rec : List ℕ) where
  -- The record has the walk's 5 bytes for lookup k.
  abbrev pub Agrees : ℕ → Type 0
  Agrees k = (i : ℕ) → i < entry_size → at rec (k * entry_size + i) ≡ at (record_of c nr set block) (k * entry_size + i)

  -- One of its 5 bytes is another.
  abbrev pub OtherByte : ℕ → Type 0
  OtherByte k = OtherAt entry_size (λ i. at rec (k * entry_size + i)) (λ i. at (record_of c nr set block) (k * entry_size + i))

  -- "Say whether the record is that walk's own, and if not give the first look-up that differs."
  pub record Exact : Type 0 where
    pub own_only : replayed c nr set block rec ≡ Ok None → rec ≡ record_of c nr set block
    pub own_if : rec ≡ record_of c nr set block → replayed c nr set block rec ≡ Ok None
    pub first_only : (k : ℕ) → replayed c nr set block rec ≡ Ok (Some k) → FirstBad (lookups nr) Agrees k
    pub first_if : (k : ℕ) → FirstBad (lookups nr) Agrees k → replayed c nr set block rec ≡ Ok (Some k)
    pub byte : (k : ℕ) → replayed c nr set block rec ≡ Ok (Some k) → OtherByte k

abbrev pub ReplaysExact : Type 0
ReplaysExact =
    (c nr : ℕ) (set block rec : List ℕ) → judge_record nr (length set) (length block) (length rec) ≡ Accepted → Exact c nr set block rec

-- ---- records that `record_walk` wrote, in an accepted call
-- Such a one is the walk's own.
abbrev pub WrittenIsOwn : Type 0
WrittenIsOwn =
    (c nr : ℕ) (set block lent left : List ℕ) (a : Answer) (r : Verdict) → Records c nr set block lent a left → a ≡ Accepted → Replays c nr set block left r
    → r ≡ Ok None

-- What it has for lookup k, by calls of the walk over the same memory, from the walk that a start hands back: b is what a move to the count k hands back, and r what
-- one to k + 1 does.
pub record EntryOfMoves (nr : ℕ) (set left : List ℕ) (k : ℕ) (b r : Move) : Type 0 where
  -- It is what is recorded of the place that the lookup reads in b's walk.
  pub place : entry_in left k ≡ written (entry_read (index_of nr k) set (place_read nr (held b.walk)))
  -- The offset is the one that r passes on (document 02, Ticket 2), in the lookup's table. Four bytes tell it whole where the tables have at most 2^32 bytes.
  pub offset : take offset_bytes (entry_in left k) ≡ bytes_of offset_bytes r.offset
  pub inside : InTable nr k r.offset
  pub whole : tables_bytes nr ≤ 2 ^ (8 * offset_bytes) → number_of offset_bytes (entry_in left k) ≡ r.offset
  -- Where the set is of bytes, an XOR entry's value is "a number 0 to 15".
  pub nibble : 16 ≤ index_of nr k → Bytes set → at (entry_in left k) offset_bytes < 16

abbrev pub WrittenOfMoves : Type 0
WrittenOfMoves =
    (c nr : ℕ) (set block lent left : List ℕ) (a : Answer) → Records c nr set block lent a left → a ≡ Accepted
    → (o : Opening) → Opens c block o → (k : ℕ) → k < lookups nr → (b r : Move) → Moves nr (to_stop set k) o.walk b → Moves nr (to_stop set (suc k)) o.walk r
    → EntryOfMoves nr set left k b r

-- ---- All of them.
pub record RecordsAndReplays : Type 0 where
  pub tests : TestsInOrder
  pub answers : ReplayAnswers
  pub refused : RefusedLeaves
  pub shaped : RecordsShaped
  pub exact : ReplaysExact
  pub own : WrittenIsOwn
  pub moves : WrittenOfMoves
  -- Its values are what the lookups put down (Values.antt).
  pub values : ValuesPutDown
