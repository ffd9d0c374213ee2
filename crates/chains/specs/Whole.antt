-- There and back: a set is made, a block coded and walked over it, and the output coding and the cipher are taken off again, by one call after the
-- other, for the cipher c. What comes of it for any cipher, key, bundle, block and lent memory. Definitions, and the statement of the answer in lengths.
use Rattle.std.specs.Prelude.{List, ◌≡◌, ℕ, length}
use Rattle.answers.specs.Answers.{wants_length, and_then, if_accepted}
use Rattle.answers.specs.declared.Refusal.TheVariants.{BlockLength}
use Rattle.aes.specs.Answers.{answer_of}
use Rattle.external.specs.Calls as external
use Rattle.external.specs.Coding.{encode_input, encode_output, decode_output}
use Rattle.layout.specs.Ciphers.{other}
use Rattle.layout.specs.Stages.{lookups}
use Rattle.calls.specs.Calls.{judge_start, started, to_stop, fetch, answer, handed}
use Rattle.calls.specs.Calls.{walked_over}
use Rattle.whitebox.specs.Bundles.{cipher_block, made_set}
use Rattle.tables.specs.Calls.{set_answer, set_left}
use Rattle.answers.specs.Answer.{Answer}

-- ---- the calls' own answers: the first refusal is the answer
-- `make_set`, then `encode_input` of the block into so many bytes.
unfoldable pub present_answer : List ℕ → List ℕ → List ℕ → List ℕ → ℕ → Answer
present_answer key l block set room = and_then (set_answer (length key) l (length set)) (external.answer 10 l (length block) room)

-- `start` over the block x, `move_to` the last count, `fetch`.
unfoldable pub over_answer : ℕ → List ℕ → List ℕ → List ℕ → Answer
over_answer c set x lent =
    and_then (judge_start (length x))
    (and_then (answer 10 (to_stop set (lookups 10)) (started c x))
    (answer 10 (fetch lent) (handed 10 (to_stop set (lookups 10)) (started c x))))

-- `decode_output` into 16 bytes, then `decipher`, or `encipher` for the inverse cipher, which answer alike.
unfoldable pub off_answer : List ℕ → List ℕ → List ℕ → List ℕ → Answer
off_answer key l coded again = and_then (external.answer 10 l (length coded) 16) (answer_of key (decode_output 10 l coded) again)

-- Up to the fetch, over the set that was made and the block under the input coding; and to the end, from FIPS 197's block under the output coding.
unfoldable pub coded_answer : ℕ → List ℕ → List ℕ → List ℕ → List ℕ → List ℕ → Answer
coded_answer c key l block set coded = and_then (present_answer key l block set 16) (over_answer c (made_set c 4 key l) (encode_input 10 l block) coded)

unfoldable pub whole_answer : ℕ → List ℕ → List ℕ → List ℕ → List ℕ → List ℕ → List ℕ → Answer
whole_answer c key l block set coded again =
    and_then (coded_answer c key l block set coded) (off_answer key l (encode_output 10 l (cipher_block c 4 key block)) again)

-- ---- the contracts of the three parts, for every input
pub record Presents (c : ℕ) (key l block set x : List ℕ) (r : Answer) (set' x' : List ℕ) : Type 0 where
  pub answer : r ≡ present_answer key l block set (length x)
  pub made : set' ≡ set_left c 4 key l set
  pub coded : x' ≡ if_accepted (present_answer key l block set (length x)) (encode_input 10 l block) x

pub record Walks (c : ℕ) (set x lent : List ℕ) (r : Answer) (left : List ℕ) : Type 0 where
  pub answer : r ≡ over_answer c set x lent
  pub block : left ≡ if_accepted (over_answer c set x lent) (walked_over c 10 set x lent) lent

pub record TakesOff (c : ℕ) (key l coded again : List ℕ) (r : Answer) (left : List ℕ) : Type 0 where
  pub answer : r ≡ off_answer key l coded again
  pub block : left ≡ if_accepted (off_answer key l coded again) (cipher_block (other c) 4 key (decode_output 10 l coded)) again

-- ---- and of all of it
-- An accepted run leaves the made set, the cipher's block under the output coding, and the block again. A refused one leaves `again` as it was; the
-- set is left as `make_set` leaves it, and `coded` as `fetch` does.
pub record ThereAndBack (c : ℕ) (key l block set coded again : List ℕ) (r : Answer) (set' coded' again' : List ℕ) : Type 0 where
  pub answer : r ≡ whole_answer c key l block set coded again
  pub made : set' ≡ set_left c 4 key l set
  pub walked : coded' ≡ if_accepted (coded_answer c key l block set coded) (encode_output 10 l (cipher_block c 4 key block)) coded
  pub back : again' ≡ if_accepted (whole_answer c key l block set coded again) block again

-- ---- the answer in lengths: a run is refused for what `make_set` refuses, and else only for a block that is not of 16 bytes (10), the one that is
-- coded or one that is lent. It is proved in proofs/laws/Refusals.antt.
abbrev pub Refusals : Type 0
Refusals =
    (c : ℕ) (key l block set coded again : List ℕ)
    → whole_answer c key l block set coded again
    ≡ and_then (set_answer (length key) l (length set))
    (and_then (wants_length 16 (length block) BlockLength)
    (and_then (wants_length 16 (length coded) BlockLength) (wants_length 16 (length again) BlockLength)))
