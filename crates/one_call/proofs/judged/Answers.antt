-- `one_call::judged`: each way out has a law of `laws.Walks`, whose premises are what passes' `judged` answers and the test on the way: it refuses
-- (`bad_whole`), or it accepts, and the lent answer is not of 16 bytes (`bad_answer`) or is (`good`).
-- Assumes nothing.
use mathlib.Core.Path.{◌∙◌}
use Rattle.answers.proofs.laws.Tests.{handed_on}
use Rattle.one_call.proofs.laws.Walks.{bad_whole, bad_answer, good}
use Rattle.one_call.proofs.judged.Goals as goal

pub returns-in_err-judged : goal.returns-in_err-judged
returns-in_err-judged c = handed_on c.from_residual.ensures ∙ bad_whole _ _ _ _ c.judged.ensures c.in_err-judged.was

pub returns-then-answer-ne16 : goal.returns-then-answer-ne16
returns-then-answer-ne16 c = search (bad_answer, c.in_ok-judged.was)

pub returns : goal.returns
returns c = search (good, c.in_ok-judged.was)
