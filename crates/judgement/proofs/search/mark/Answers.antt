-- `judgement::search::mark` meets its contract. The top bit of 16, shifted down by x, is bit x, counted from the top (`mark_bit` of `laws.Marks`); x is below 16,
-- so the shift stays within the word.
-- Assumes nothing.
use Rattle.judgement.proofs.laws.Marks.{mark_bit}
use Rattle.judgement.proofs.search.mark.Goals as goal

pub returns : goal.returns
returns c = mark_bit _ c.requires
