-- What the maker's calls answer, and what they leave in the lent memory: the set or the table for the cipher c, or what it held. The cipher is no cause of
-- refusal. Over keys of nk words, whose ciphers have rounds_of nk rounds; the calls are those for AES-128, 4 words and ten rounds. Definitions only.
use Rattle.std.specs.Prelude.{not, List, ℕ, ◌*◌, ltb, length}
use Rattle.answers.specs.Answers.{refused_if, wants_length, and_then, if_accepted}
use Rattle.answers.specs.declared.Refusal.TheVariants.{KeyLength, TableNumber, SetLength}
use Rattle.round.specs.Key.{rounds_of}
use Rattle.judgement.specs.Judge.{judge}
use Rattle.layout.specs.Stages.{lookups, set_bytes, table_size}
use Rattle.whitebox.specs.Bundles.{made_set, made_table}
use Rattle.answers.specs.Answer.{Answer}

module _ (nk : ℕ) where
  -- 1, "key not 16 bytes", then 2 to 7 by the bundle's judgement. Here the length of the key.
  unfoldable pub judged_for : ℕ → List ℕ → Answer
  judged_for key l = and_then (wants_length (4 * nk) key KeyLength) (judge (rounds_of nk) l)

  -- Then 9, "set or single table of wrong length". Here the lengths of key and memory.
  unfoldable pub set_answer_for : ℕ → List ℕ → ℕ → Answer
  set_answer_for key l memory = and_then (judged_for key l) (wants_length (set_bytes (rounds_of nk)) memory SetLength)

  -- For one table 8, "table number above 3,007", before 9.
  unfoldable pub table_answer_for : ℕ → List ℕ → ℕ → ℕ → Answer
  table_answer_for key l number memory =
      and_then (judged_for key l)
      (and_then (refused_if (not (ltb number (lookups (rounds_of nk)))) TableNumber) (wants_length (table_size (rounds_of nk) number) memory SetLength))

-- What the calls for the cipher c leave in a memory that held the bytes `held`: the contracts of `make_set` and `make_table` cite these.
abbrev pub set_left : ℕ → ℕ → List ℕ → List ℕ → List ℕ → List ℕ
set_left c nk key l held = if_accepted (set_answer_for nk (length key) l (length held)) (made_set c nk key l) held

abbrev pub table_left : ℕ → ℕ → List ℕ → List ℕ → ℕ → List ℕ → List ℕ
table_left c nk key l n held = if_accepted (table_answer_for nk (length key) l n (length held)) (made_table c nk key l n) held

-- ---- the calls
abbrev pub judged : ℕ → List ℕ → Answer
judged = judged_for 4

abbrev pub set_answer : ℕ → List ℕ → ℕ → Answer
set_answer = set_answer_for 4

abbrev pub table_answer : ℕ → List ℕ → ℕ → ℕ → Answer
table_answer = table_answer_for 4
