-- `walker::line_of` meets its contract: a set too long, the answer that a fetch gave, or its refusal (`line_too_long`, `line_answer` and `line_refused` of `laws.Writes`).
-- Assumes nothing.
use Rattle.walker.proofs.laws.Writes.{line_too_long, line_answer, line_refused}
use Rattle.walker.proofs.line_of.Goals as goal

pub returns-then-rest-gt0 : goal.returns-then-rest-gt0
returns-then-rest-gt0 c =
    line_too_long 10 _ _ (search) c.cause_line.ensures

pub returns-in_default : goal.returns-in_default
returns-in_default c =
    line_answer 10 _ _ (search) c.fetch-answer.ensures (search) c.answer_line.ensures

pub returns : goal.returns
returns c =
    line_refused 10 _ _ (search) c.fetch-answer.ensures (search) c.cause_line-2.ensures
