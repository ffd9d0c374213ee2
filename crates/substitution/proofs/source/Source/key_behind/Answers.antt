-- `substitution::source::Source::key_behind` has three ways out: for the inverse cipher round key nr−r (`behind_inverse` of
-- `laws.Keys`); for the forward cipher the last round key in the last round (`behind_last`), and nothing in the others
-- (`behind_none`).
-- Assumes nothing.
use Rattle.substitution.proofs.laws.Keys.{behind_inverse, behind_last, behind_none}
use Rattle.substitution.proofs.source.Source.key_behind.Goals as goal

pub returns-then-self-ne0 : goal.returns-then-self-ne0
returns-then-self-ne0 c = search behind_inverse

pub returns-then-r-rounds : goal.returns-then-r-rounds
returns-then-r-rounds c = search behind_last

pub returns-else-r-rounds : goal.returns-else-r-rounds
returns-else-r-rounds c = search behind_none
