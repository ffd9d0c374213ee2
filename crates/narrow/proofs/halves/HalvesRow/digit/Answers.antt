-- `narrow::halves::HalvesRow::digit` meets its contract. Digit s of the high half is digit 32 + s of the word (`digit_left` of `laws.Halves`).
-- Assumes nothing.
use Rattle.narrow.proofs.laws.Halves.{digit_left}
use Rattle.narrow.proofs.halves.HalvesRow.digit.Goals as goal

pub returns : goal.returns
returns c = digit_left _ _
