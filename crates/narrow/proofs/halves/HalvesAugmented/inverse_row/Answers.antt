-- `narrow::halves::HalvesAugmented::inverse_row` meets its contract. The low half is a word, and so the value of a vector whose high word is 0 (`low_half` of
-- `laws.Halves`).
-- Assumes nothing.
use Rattle.narrow.proofs.laws.Halves.{low_half}
use Rattle.narrow.proofs.halves.HalvesAugmented.inverse_row.Goals as goal

pub returns : goal.returns
returns c = low_half _
