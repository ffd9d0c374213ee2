-- `bits::vector::push_bit` meets its contract. The low word's top digit goes to the bottom of the high word, and both words move up by one digit;
-- the high word's top digit falls out, so that it stays a word (`pushed_high` of `laws.Words`), as it does modulo 2^128 (`pushed_words`).
-- Assumes nothing.
use native.Mathlib.Omega.{arith}
use Rattle.bits.proofs.laws.Words.{pushed_high, pushed_words}
use Rattle.bits.proofs.vector.push_bit.Goals as goal

pub overflow_add-result : goal.overflow_add-result
overflow_add-result c = record { fits = pushed_high _ _ (omega arith) }

pub returns : goal.returns
returns c = pushed_words _ _ _ (omega arith)
