-- `bits::slices::number_at` meets its contract. `read` gives the four bytes as a number of two words; four bytes are below 2^32, so the number
-- is its low word (`low_word` of `laws.Bytes`).
-- Assumes nothing.
use Rattle.bits.proofs.laws.Bytes.{low_word}
use Rattle.bits.proofs.slices.number_at.Goals as goal

pub returns : goal.returns
returns c =
    low_word _ _ _ _ (λ i. (c.type_inv.s i).fits) c.read-v.ensures
