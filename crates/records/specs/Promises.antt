-- What the calls of src/record.rt and src/replay.rt ensure: their contracts cite these, at ten rounds, and so do the statements about calls in code. Definitions only.
use Rattle.std.specs.Prelude.{List, ◌≡◌, ℕ, length}
use Rattle.answers.specs.Answers.{reply_of}
use Rattle.records.specs.Replay.{judge_record, record_left, verdict_answer, replayed}
use Rattle.answers.specs.Answer.{Answer}
use Rattle.records.specs.Replay.{Verdict}

module _ (c nr : ℕ) (set block : List ℕ) where
  -- `record_walk` for the cipher c over this set and block, into memory that held `lent`, answers a, and the memory is `left` afterwards.
  pub record Records (lent : List ℕ) (a : Answer) (left : List ℕ) : Type 0 where
    pub answer : a ≡ judge_record nr (length set) (length block) (length lent)
    pub bytes : left ≡ record_left c nr set block lent

  -- `replay` of the record `rec` hands back r: the verdict, and what it says in the documents' numbers, which is what the lengths give.
  pub record Replays (rec : List ℕ) (r : Verdict) : Type 0 where
    pub result : r ≡ replayed c nr set block rec
    pub reply : reply_of (verdict_answer r) ≡ reply_of (judge_record nr (length set) (length block) (length rec))
