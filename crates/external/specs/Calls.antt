-- What the calls answer, and the lent block that they leave. Definitions only.
use Rattle.std.specs.Prelude.{List, ℕ, length}
use Rattle.answers.specs.Answers.{wants_length, and_then, if_accepted}
use Rattle.answers.specs.declared.Refusal.TheVariants.{BlockLength}
use Rattle.judgement.specs.Judge.{judge}
use Rattle.answers.specs.Answer.{Answer}

-- "Coding and uncoding judge the whole bundle": causes 2 to 7, then 10, "block not 16 bytes, in or out". Here the lengths of the two
-- blocks.
unfoldable pub answer : ℕ → List ℕ → ℕ → ℕ → Answer
answer nr l from to = and_then (judge nr l) (and_then (wants_length 16 from BlockLength) (wants_length 16 to BlockLength))

-- What a call that codes by f leaves of the lent block o, where it reads the block x.
abbrev pub leaves : ℕ → List ℕ → (List ℕ → List ℕ) → List ℕ → List ℕ → List ℕ
leaves nr l f x o = if_accepted (answer nr l (length x) (length o)) (f x) o
