-- The call from a block to its answer, by a walk for the cipher c: start, one move over the set to the last count, fetch. Of nr rounds; the call for C is for ten.
-- Definitions only.
use Rattle.std.specs.Prelude.{List, ℕ, length}
use Rattle.answers.specs.Answers.{wants_length, and_then, if_accepted}
use Rattle.answers.specs.declared.Refusal.TheVariants.{BlockLength}
use Rattle.calls.specs.Calls.{judge_whole, walked_over}
use Rattle.answers.specs.Answer.{Answer}

module _ (nr : ℕ) where
  -- For a set, a block and an answer of these lengths: 9, "set .. of wrong length", then 10, "block not 16 bytes, in or out".
  unfoldable pub walk_answer_for : ℕ → ℕ → ℕ → Answer
  walk_answer_for set block answer = and_then (judge_whole nr set block) (wants_length 16 answer BlockLength)

  -- What the call leaves of the lent answer: demand 2's block, or the bytes that it held.
  unfoldable pub walk_leaves_for : ℕ → List ℕ → List ℕ → List ℕ → List ℕ
  walk_leaves_for c set block answer =
      if_accepted (walk_answer_for (length set) (length block) (length answer)) (walked_over c nr set block answer) answer

-- ---- the call
abbrev pub walk_answer : ℕ → ℕ → ℕ → Answer
walk_answer = walk_answer_for 10

abbrev pub walk_leaves : ℕ → List ℕ → List ℕ → List ℕ → List ℕ
walk_leaves = walk_leaves_for 10
