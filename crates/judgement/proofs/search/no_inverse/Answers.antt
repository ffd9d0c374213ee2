-- `judgement::search::no_inverse` meets its contract: it is the contrary of what the elimination of the matrix says (`inverse_told` of `laws.Judging`).
-- Assumes nothing.
use Rattle.judgement.proofs.laws.Judging.{inverse_told}
use Rattle.judgement.proofs.search.no_inverse.Goals as goal

pub returns : goal.returns
returns c =
    inverse_told _ _ c.has_inverse.ensures
