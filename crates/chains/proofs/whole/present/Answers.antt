-- `chains::whole::present` meets its contract: where `make_set` refuses, its answer is the answer and nothing is coded (`not_made` of `laws.Whole`); else
-- `encode_input` decides (`presented`). The premises are what the two calls ensure.
-- Assumes nothing.
use Rattle.chains.proofs.laws.Whole.{not_made, presented}
use Rattle.chains.proofs.whole.present.Goals as goal

pub returns-in_err-make_set : goal.returns-in_err-make_set
returns-in_err-make_set c =
    not_made _ _ _ _ _ _ c.make_set.ensures.answer c.make_set.ensures.bytes c.from_residual.ensures c.in_err-make_set.was

pub returns : goal.returns
returns c =
    presented _ _ _ _ _ _ c.make_set.ensures.answer c.make_set.ensures.bytes c.in_ok-make_set.was c.encode_input.ensures.answer c.encode_input.ensures.block
