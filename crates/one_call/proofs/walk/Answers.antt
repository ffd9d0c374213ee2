-- `one_call::walk`: where `judged` finds something against the lengths, its answer is returned and the lent answer is left as it was (`walk_refused` of
-- `laws.Walks`); else the walk for the cipher starts at the block, one move over the set goes to the last count, and the block there is fetched (`walk_done`, whose
-- premises are what the three calls ensure).
-- Assumes nothing.
use Rattle.layout.proofs.laws.Cases.{starred}
use Rattle.one_call.proofs.laws.Walks.{walk_refused, walk_done}
use Rattle.one_call.proofs.walk.Goals as goal

pub returns-in_err-judged-clause-block : goal.returns-in_err-judged-clause-block
returns-in_err-judged-clause-block c = walk_refused _ _ _ _ _ c.judged.ensures c.in_err-judged.was

pub returns-clause-block : goal.returns-clause-block
returns-clause-block c =
    walk_done _ _ _ _ _ c.judged.ensures c.in_ok-judged.was starred.all_lookups c.start-opening.ensures c.move_to-moved.ensures c.fetch.ensures
