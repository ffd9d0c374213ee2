-- `bits::vector::add` meets its contract. `masked` gives each word of b times the lowest bit of c, and the words are xored one by one: `added_words`
-- of `laws.Words` says that this is the xor of the numbers, since the low words do not reach into the high ones.
-- Assumes nothing.
use native.Mathlib.Omega.{arith}
use Rattle.bits.proofs.laws.Words.{added_words}
use Rattle.bits.proofs.vector.add.Goals as goal

pub returns : goal.returns
returns c =
    added_words _ _ _ _ _ _ _ (omega arith) (omega arith) c.masked.ensures c.masked-2.ensures
