-- `invertible::forward::U64Single::of` meets its contract. A vector of 64 bits is its low word (`low_word` of `laws.Lists`).
-- Assumes nothing.
use native.Mathlib.Omega.{arith}
use Rattle.invertible.proofs.laws.Lists.{low_word}
use Rattle.invertible.proofs.forward.U64Single.of.Goals as goal

pub returns : goal.returns
returns c = low_word _ _ (omega arith) c.requires
