-- `chains::whole::walk_over` meets its contract: `start` refuses (`not_started` of `laws.Whole`), or `move_to` does (`not_moved`), or `fetch` decides (`walked`).
-- The premises are what the calls ensure.
-- Assumes nothing.
use Rattle.chains.proofs.laws.Whole.{not_started, not_moved, walked}
use Rattle.chains.proofs.whole.walk_over.Goals as goal

pub returns-in_err-opening : goal.returns-in_err-opening
returns-in_err-opening c =
    not_started _ _ _ _ c.start-opening.ensures c.from_residual.ensures c.in_err-opening.was

pub returns-in_err-end : goal.returns-in_err-end
returns-in_err-end c =
    not_moved _ _ _ _ c.start-opening.ensures c.in_ok-opening.was c.move_to-end.ensures c.from_residual-in_err-end.ensures c.in_err-end.was

pub returns : goal.returns
returns c =
    walked _ _ _ _ c.start-opening.ensures c.in_ok-opening.was c.move_to-end.ensures c.in_ok-end.was c.fetch.ensures
