-- `bits::vector::parity` meets its contract. The ones that two vectors share are those of the high words' `and` and of the low words'; the
-- parity of both together is that of their xor (`dot_wide` of `laws.Words`).
-- Assumes nothing.
use mathlib.Core.Path.{ap, ◌∙◌}
use Prim.Native.Nat.{ℕ, ◌%◌}
use native.Mathlib.Omega.{arith}
use Rattle.bits.proofs.laws.Words.{dot_wide}
use Rattle.bits.proofs.vector.parity.Goals as goal

pub returns : goal.returns
returns c = ap (λ (n : ℕ). n % 2) c.from.ensures ∙ dot_wide _ _ _ _ (omega arith) (omega arith)
