-- `chains::whole::there_and_back` meets its contract: `present` refuses (`back_none` of `laws.Whole`), or `walk_over` does (`back_not`); else `take_off` decides
-- (`back_done`), where demand 2 gives the block fetched, since key, bundle and block are bytes and no call refused.
-- Assumes nothing.
use mathlib.Core.Path.{refl}
use Rattle.chains.proofs.laws.Whole.{back_none, back_not, back_done}
use Rattle.chains.proofs.whole.there_and_back.Goals as goal

pub returns-in_err-present : goal.returns-in_err-present
returns-in_err-present c =
    back_none _ _ _ _ _ _ _ _ refl c.present.ensures c.from_residual.ensures c.in_err-present.was

pub returns-in_err-walk_over : goal.returns-in_err-walk_over
returns-in_err-walk_over c =
    back_not _ _ _ _ _ _ _ _ refl c.present.ensures c.in_ok-present.was c.walk_over.ensures c.from_residual-in_err-walk_over.ensures c.in_err-walk_over.was

pub returns : goal.returns
returns c =
    back_done _ _ _ _ _ _ _ _ refl c.present.ensures c.in_ok-present.was c.walk_over.ensures c.in_ok-walk_over.was
    (λ i. (c.type_inv.key i).fits) (λ i. (c.type_inv.bundle i).fits) (λ i. (c.type_inv.block i).fits)
    c.take_off.ensures
