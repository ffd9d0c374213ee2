-- `bits::vector::byte` meets its contract. No byte lies in two words: the 8 bits at place 8 k are in the low word where k is below 8
-- (`bits_low` of `laws.Words`), else in the high one, 64 places lower (`bits_high`).
-- Assumes nothing.
use native.Mathlib.Omega.{arith}
use Rattle.bits.proofs.laws.Words.{bits_low, bits_high}
use Rattle.bits.proofs.vector.byte.Goals as goal

pub returns-then-k-lt8 : goal.returns-then-k-lt8
returns-then-k-lt8 c = bits_low 8 _ _ _ (omega arith)

pub returns-else-k-lt8 : goal.returns-else-k-lt8
returns-else-k-lt8 c = bits_high 8 _ _ _ (omega arith) (omega arith)
