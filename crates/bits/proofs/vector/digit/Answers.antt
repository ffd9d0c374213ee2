-- `bits::vector::digit` meets its contract. Digit s is in the low word where s is below 64 (`bits_low` of `laws.Words`), else in the high
-- one, 64 places lower (`bits_high`); from 128 on there is none (`bits_above`).
-- Assumes nothing.
use native.Mathlib.Omega.{arith}
use Rattle.bits.proofs.laws.Words.{bits_low, bits_high, bits_above}
use Rattle.bits.proofs.vector.digit.Goals as goal

pub returns-then-s-lt64 : goal.returns-then-s-lt64
returns-then-s-lt64 c = bits_low 1 _ _ _ (omega arith)

pub returns-then-s-lt128 : goal.returns-then-s-lt128
returns-then-s-lt128 c = bits_high 1 _ _ _ (search) (omega arith)

pub returns-else-s-lt128 : goal.returns-else-s-lt128
returns-else-s-lt128 c = bits_above 1 _ _ _ (search) (omega arith) (omega arith)
