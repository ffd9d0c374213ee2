-- `invertible::forward::read` meets its contract. The loop's invariant, `Taken` of `laws.Lists`: row j, for j below i, is row j of the matrix that the bytes write. A
-- turn reads the w bytes of row i, which has at most so many digits (`read_small`), and stores it (`taken_more`); behind the last row all are read
-- (`taken_all`). The bytes of a row lie within those of the matrix (`row_within`), at most 2048 of them, so no index wraps.
-- Assumes nothing.
use Rattle.matrices.proofs.laws.Stored.{row_within}
use Rattle.invertible.proofs.laws.Lists.{read_small, taken_more, taken_all}
use native.Mathlib.Omega.{arith}
use Rattle.invertible.proofs.forward.read.Goals as goal

pub read-requires : goal.read-requires
read-requires g c =
    omega (arith, row_within _ _ c.loop-i-test.true)

pub of-requires : goal.of-requires
of-requires g c =
    read_small _ _ _ _ c.requires.within c.read.ensures (λ j. (c.type_inv.p _).fits)

pub loop-i-preserved : goal.loop-i-preserved
loop-i-preserved g c =
    taken_more c.loop-i.invariant c.requires.room c.loop-i-test.true c.read.ensures c.of.ensures

pub returns : goal.returns
returns g c =
    taken_all c.loop-i.invariant (search)
