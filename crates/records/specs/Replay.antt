-- What the calls answer: document 02, Ticket 3. "Given a set, a block and a record, say whether the record is that walk's own, and if not give the first
-- look-up that differs." Over any memory, any block, any record, any number nr of rounds and either cipher. Definitions only.
use Rattle.std.specs.Prelude.{Bool, true, false, not, ◌&&◌, List, [], ◌∷◌, ℕ, eqb, length, Ok, Err, Option, Result}
use Rattle.answers.specs.Answers.{wants_length, and_then, if_accepted}
use Rattle.answers.specs.Search.{first}
use Rattle.answers.specs.declared.Refusal.{Refusal}
use Rattle.answers.specs.declared.Refusal.TheVariants.{RecordLength}
use Rattle.layout.specs.Stages.{lookups}
use Rattle.calls.specs.Calls.{judge_whole}
use Rattle.records.specs.Record.{entry_at, record_of, record_bytes, entry_in}
use Rattle.answers.specs.Answer.{Answer, Accepted, Refused, answer_in}

-- ---- what is turned down, from the lengths of the set, the block and the record: 9, 10, and "a record of a length other than 15,040 gets number 13, tested
-- after 10"
unfoldable pub judge_record : ℕ → ℕ → ℕ → ℕ → Answer
judge_record nr setLen block_len recLen = and_then (judge_whole nr setLen block_len) (wants_length (record_bytes nr) recLen RecordLength)

-- ---- the record of a walk into lent memory
-- What the call leaves of the memory that held `lent`: the walk's record, or what it held.
unfoldable pub record_left : ℕ → ℕ → List ℕ → List ℕ → List ℕ → List ℕ
record_left c nr set block lent = if_accepted (judge_record nr (length set) (length block) (length lent)) (record_of c nr set block) lent

-- ---- the replay of a record
-- Two lists of bytes are the same.
unfoldable pub same : List ℕ → List ℕ → Bool
same [] [] = true
same [] (y ∷ ys) = false
same (x ∷ xs) [] = false
same (x ∷ xs) (y ∷ ys) = eqb x y && same xs ys

-- The record has another entry for lookup k than the walk.
abbrev pub differs_at : ℕ → ℕ → List ℕ → List ℕ → List ℕ → ℕ → Bool
differs_at c nr set block rec k = not (same (entry_in rec k) (entry_at c nr set block k))

-- What a replay says of a record: the first lookup that differs, or none where the record is the walk's own; or why the call is refused.
abbrev pub Verdict : Type 0
Verdict = Result (Option ℕ) Refusal

-- A refused call hands back its refusal.
abbrev pub verdict_by : Answer → Option ℕ → Verdict
verdict_by Accepted r = Ok r
verdict_by (Refused why) r = Err why

-- The answer in it: a replay is accepted whether or not the record is the walk's own.
abbrev pub verdict_answer : Verdict → Answer
verdict_answer v = answer_in v

unfoldable pub replayed : ℕ → ℕ → List ℕ → List ℕ → List ℕ → Verdict
replayed c nr set block rec =
    verdict_by (judge_record nr (length set) (length block) (length rec)) (first (lookups nr) (differs_at c nr set block rec))
