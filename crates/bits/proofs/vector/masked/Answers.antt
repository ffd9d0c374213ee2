-- `bits::vector::masked` meets its contract. The lowest bit of c times the word of 64 ones is a word (`scaled` of `laws.Words`), and its `and` with x is
-- that bit times x (`masked_is`).
-- Assumes nothing.
use native.Mathlib.Omega.{arith}
use Rattle.bits.proofs.laws.Words.{masked_is, scaled}
use lib.Dec.{lit<}
use Rattle.bits.proofs.vector.masked.Goals as goal

pub overflow_mul-result : goal.overflow_mul-result
overflow_mul-result c = record { fits = scaled _ 18446744073709551615 (lit< tt) }

pub returns : goal.returns
returns c = masked_is _ _ (omega arith)
