-- What a host reads off the number that a call for C returns: the statement. It is proved in proofs/laws/Returned.antt.
use Rattle.std.specs.Prelude.{List, ℕ}
use Rattle.answers.specs.Numbers.{ReadOff}
use Rattle.aes.specs.Answers.{answer_of}
use Rattle.judgement.specs.Judge.{judge}
use Rattle.external.specs.Calls.{answer}
use Rattle.tables.specs.Calls.{set_answer, table_answer}
use Rattle.catalogue.specs.Catalogue.{catalogue_entry, entry_answer}
use Rattle.calls.specs.Calls.{judge_whole}
use Rattle.records.specs.Replay.{judge_record}
use Rattle.one_call.specs.Walks.{walk_answer}

-- Of every call, whatever it is lent: both of the documents' numbers can be read off, and it is 0 only where the call is accepted.
pub record Returned : Type 0 where
  pub judgements : (l : List ℕ) → ReadOff (judge 10 l)
  pub codings : (l : List ℕ) (from to : ℕ) → ReadOff (answer 10 l from to)
  pub ciphers : (key from into : List ℕ) → ReadOff (answer_of key from into)
  pub sets : (key : ℕ) (l : List ℕ) (memory : ℕ) → ReadOff (set_answer key l memory)
  pub singles : (key : ℕ) (l : List ℕ) (number memory : ℕ) → ReadOff (table_answer key l number memory)
  pub walks : (set block answer : ℕ) → ReadOff (walk_answer set block answer)
  pub records : (set block rec : ℕ) → ReadOff (judge_record 10 set block rec)
  pub bits : (set block : ℕ) → ReadOff (judge_whole 10 set block)
  pub entries : (position : ℕ) → ReadOff (entry_answer (catalogue_entry position))
