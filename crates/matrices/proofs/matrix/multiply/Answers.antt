-- `matrices::matrix::multiply` meets its contract. The loop's invariant, `Joined` of bits: the vector p is made of the parities of the first i
-- rows and v. A turn pushes the parity of row i, for which there is room, since there are at most 128 rows (`joined_bit`); behind the last row
-- p is the product (`multiplied` of `laws.Rows`).
-- Assumes nothing.
use Rattle.bits.proofs.laws.Joined.{joined_none, joined_bit}
use Rattle.bits.proofs.laws.Vectors.{dot_lt}
use Rattle.bits.proofs.laws.Words.{wide_zero}
use Rattle.matrices.proofs.laws.Rows.{multiplied}
use native.Mathlib.Omega.{arith}
use Rattle.matrices.proofs.matrix.multiply.Goals as goal

pub loop-i-init : goal.loop-i-init
loop-i-init c = joined_none wide_zero

pub loop-i-preserved : goal.loop-i-preserved
loop-i-preserved c =
    joined_bit c.loop-i.invariant (λ j. dot_lt _ _) c.loop-i-test.true (omega arith) c.push_bit-p.ensures (cc)

pub returns : goal.returns
returns c = search multiplied
