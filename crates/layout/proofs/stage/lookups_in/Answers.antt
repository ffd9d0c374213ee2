-- `layout::stage::lookups_in` meets its contract: the number for each of 10, 12 and 14 rounds is the one that the stages add up to (`all_lookups` of `laws.Rounds`).
-- Assumes nothing.
use Rattle.layout.proofs.laws.Rounds.{all_lookups}
use native.Mathlib.Omega.{arith}
use Rattle.layout.proofs.stage.lookups_in.Goals as goal

pub returns-in-10 : goal.returns-in-10
returns-in-10 c = all_lookups _ (omega arith)

pub returns-in-12 : goal.returns-in-12
returns-in-12 c = all_lookups _ (omega arith)

pub returns-in_default : goal.returns-in_default
returns-in_default c = all_lookups _ (omega arith)
