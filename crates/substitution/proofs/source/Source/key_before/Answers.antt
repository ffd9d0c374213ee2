-- `substitution::source::Source::key_before` has three ways out: round key r−1 for the forward cipher (`before_forward` of
-- `laws.Keys`); for the inverse cipher the last round key in round 1 (`before_first`), and nothing in the others
-- (`before_none`).
-- Assumes nothing.
use Rattle.substitution.proofs.laws.Keys.{before_forward, before_first, before_none}
use Rattle.substitution.proofs.source.Source.key_before.Goals as goal

pub returns-then-self-eq0 : goal.returns-then-self-eq0
returns-then-self-eq0 c = search before_forward

pub returns-then-r-eq1 : goal.returns-then-r-eq1
returns-then-r-eq1 c = search before_first

pub returns-else-r-eq1 : goal.returns-else-r-eq1
returns-else-r-eq1 c = search before_none
