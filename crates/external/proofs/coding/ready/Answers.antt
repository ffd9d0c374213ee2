-- `external::coding::ready`: the judgement's refusal, else the lengths of the two blocks; each way out has a law of `laws.Code`, whose premises
-- are what the judgement answers and the tests on the way: a refused bundle (`answer_bundle`), a block read or lent that is not of 16 bytes
-- (`answer_from`, `answer_to`), none of these (`answer_accepted`).
-- Assumes nothing.
use mathlib.Core.Path.{◌∙◌}
use Rattle.answers.proofs.laws.Tests.{handed_on}
use Rattle.external.proofs.laws.Code.{answer_bundle, answer_from, answer_to, answer_accepted}
use Rattle.external.proofs.coding.ready.Goals as goal

pub returns-in_err-judge_bundle : goal.returns-in_err-judge_bundle
returns-in_err-judge_bundle c =
    handed_on c.from_residual.ensures ∙ answer_bundle _ _ _ _ _ c.judge_bundle.ensures c.in_err-judge_bundle.was

pub returns-then-from-ne16 : goal.returns-then-from-ne16
returns-then-from-ne16 c =
    answer_from _ _ _ _ _ c.judge_bundle.ensures c.in_ok-judge_bundle.was (search)

pub returns-then-to-ne16 : goal.returns-then-to-ne16
returns-then-to-ne16 c =
    answer_to _ _ _ _ _ c.judge_bundle.ensures c.in_ok-judge_bundle.was (search) (search)

pub returns : goal.returns
returns c =
    answer_accepted _ _ _ _ _ c.judge_bundle.ensures c.in_ok-judge_bundle.was (search) (search)
