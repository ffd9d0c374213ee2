-- What the call answers: document 02, Ticket 7. "The list is had from a call, which gives the smallest such bit at or after a given bit number, counted from the top
-- bit of byte 0, or says that none is left. Wrong lengths get 9 and 10 as before." Over any memory, any block, any number to start from, any number nr of rounds
-- and either cipher. Definitions only.
use Rattle.std.specs.Prelude.{cond, List, [], ◌∷◌, ℕ, ltb, length, Option, Some, None, Result, Ok, Err}
use Rattle.layout.specs.Ciphers.{reads_of}
use Rattle.calls.specs.Calls.{judge_whole}
use Rattle.sensitivity.specs.Reads.{bits_read}
use Rattle.answers.specs.Answer.{Answer, Accepted, Refused, answer_in}
use Rattle.answers.specs.declared.Refusal.{Refusal}

-- What the call answers: the bit, or none where none is left; or why it is refused.
abbrev pub NextBit : Type 0
NextBit = Result (Option ℕ) Refusal

-- The first number of a list at or after `from`. Of a list that rises it is the smallest such number (Theorems.antt).
unfoldable pub next_in : List ℕ → ℕ → Option ℕ
next_in [] from = None
next_in (v ∷ vs) from = cond (ltb v from) (next_in vs from) (Some v)

-- A refused call hands back its refusal.
abbrev pub next_by : Answer → Option ℕ → NextBit
next_by Accepted r = Ok r
next_by (Refused why) r = Err why

-- The answer in it: a call is accepted whether or not a bit is left.
abbrev pub bit_answer : NextBit → Answer
bit_answer r = answer_in r

unfoldable pub next_bit_of : ℕ → ℕ → List ℕ → List ℕ → ℕ → NextBit
next_bit_of c nr set block from = next_by (judge_whole nr (length set) (length block)) (next_in (bits_read (reads_of c) nr set block) from)
