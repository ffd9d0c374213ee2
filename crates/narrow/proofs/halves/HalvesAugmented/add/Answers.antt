-- `narrow::halves::HalvesAugmented::add` meets its contract. The other word, times the lowest bit of c, is added in both halves apart (`left_added` and `right_added` of
-- `laws.Halves`).
-- Assumes nothing.
use Rattle.narrow.proofs.laws.Halves.{left_added, right_added}
use native.Mathlib.Omega.{arith}
use Rattle.narrow.proofs.halves.HalvesAugmented.add.Goals as goal

pub returns-clause-row : goal.returns-clause-row
returns-clause-row c = left_added _ _ _ _ (omega arith) c.masked.ensures

pub returns-clause-inverse : goal.returns-clause-inverse
returns-clause-inverse c = right_added _ _ _ _ (omega arith) c.masked.ensures
