-- `matrices::matrix::column` meets its contract. The loop's invariant, `Joined` of bits: the vector c is made of the parities of the first i
-- rows and 2^s. A turn pushes digit s of row i, which is that parity (`column_bit` of `laws.Rows`), and there is room for it, since there are
-- at most 128 rows (`joined_bit`); behind the last row c is the product (`multiplied`).
-- Assumes nothing.
use Rattle.bits.proofs.laws.Joined.{joined_none, joined_bit}
use Rattle.bits.proofs.laws.Vectors.{dot_lt}
use Rattle.bits.proofs.laws.Words.{wide_zero}
use Rattle.matrices.proofs.laws.Rows.{column_bit, multiplied}
use native.Mathlib.Omega.{arith}
use Rattle.matrices.proofs.matrix.column.Goals as goal

pub loop-i-init : goal.loop-i-init
loop-i-init c = joined_none wide_zero

pub loop-i-preserved : goal.loop-i-preserved
loop-i-preserved c =
    joined_bit c.loop-i.invariant (λ j. dot_lt _ _) c.loop-i-test.true (omega arith) c.push_bit-c.ensures
    (column_bit _ _ _ (search) (c.type_inv.m _).fits)

pub returns : goal.returns
returns c = search multiplied
