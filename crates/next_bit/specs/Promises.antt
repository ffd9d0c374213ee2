-- What the call of src/search.rt ensures: its contract cites this, at ten rounds, and so do the statements about calls in code. Definitions only.
use Rattle.std.specs.Prelude.{List, ◌≡◌, ℕ, length}
use Rattle.answers.specs.Answers.{reply_of}
use Rattle.calls.specs.Calls.{judge_whole}
use Rattle.next_bit.specs.NextBit.{bit_answer, next_bit_of}
use Rattle.next_bit.specs.NextBit.{NextBit}

-- `next_bit` for the cipher c over this set and block, from the bit `from` on, hands back r: the bit or that none is left, and what it says in the documents' numbers,
-- which is what the lengths give.
pub record Finds (c nr : ℕ) (set block : List ℕ) (from : ℕ) (r : NextBit) : Type 0 where
  pub result : r ≡ next_bit_of c nr set block from
  pub reply : reply_of (bit_answer r) ≡ reply_of (judge_whole nr (length set) (length block))
