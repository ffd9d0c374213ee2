-- `bits::vector::push_byte` meets its contract. The low word's top byte goes to the bottom of the high word, both words move up by a byte, and
-- the sum of it all is `value` written out. By the `requires` the high word is below 2^56 (`high_lt` of `laws.Words`), so there is room above
-- it.
-- Assumes nothing.
use native.Mathlib.Omega.{arith}
use Rattle.bits.specs.Words.{wide}
use Rattle.bits.proofs.laws.Words.{high_lt}
use Rattle.bits.proofs.vector.push_byte.Goals as goal

pub overflow_mul-result : goal.overflow_mul-result
overflow_mul-result c =
    omega (arith, high_lt 56 _ _ c.requires (omega arith))

pub overflow_add-result : goal.overflow_add-result
overflow_add-result c =
    omega (arith, high_lt 56 _ _ c.requires (omega arith))

pub returns : goal.returns
unfolding wide
returns c = omega arith
