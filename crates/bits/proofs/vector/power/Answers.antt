-- `bits::vector::power` meets its contract. The only one is in the low word where s is below 64 (`power_low` of `laws.Words`), else in the
-- high one, 64 places lower (`power_high`); from 128 on there is none (`power_above`).
-- Assumes nothing.
use Rattle.bits.proofs.laws.Words.{power_low, power_high, power_above}
use Rattle.bits.proofs.vector.power.Goals as goal

pub returns-then-s-lt64 : goal.returns-then-s-lt64
returns-then-s-lt64 c = power_low _ (search)

pub returns-then-s-lt128 : goal.returns-then-s-lt128
returns-then-s-lt128 c = power_high _ (search) (search)

pub returns-else-s-lt128 : goal.returns-else-s-lt128
returns-else-s-lt128 c = power_above _ (search)
