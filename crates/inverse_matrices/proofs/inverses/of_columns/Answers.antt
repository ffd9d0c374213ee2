-- `inverse_matrices::inverses::of_columns`: the loop's invariant, `Parts` of bits: the inverses of the first n column
-- matrices stand one after the other, 64 words each. A turn lends the next 64 words and `of_column` fills them
-- (`columns_more` of `laws.Inverses`); behind the last these are the inverses of all (`parts_all`).
-- Assumes nothing.
use Rattle.bits.proofs.laws.Parts.{parts_none, part_lent, parts_all}
use Rattle.bundle.specs.Format.{column_matrices}
use Rattle.inverse_matrices.specs.InverseWords.{column_inverses}
use Rattle.inverse_matrices.proofs.laws.Inverses.{column_below, columns_more}
use native.Mathlib.Omega.{arith}
use Rattle.inverse_matrices.proofs.inverses.of_columns.Goals as goal

pub loop-n-init : goal.loop-n-init
loop-n-init c = parts_none (omega arith)

pub of_column-requires : goal.of_column-requires
of_column-requires c =
    (column_below _ c.loop-n-test.true, omega (arith, part_lent c.loop-n.invariant c.loop-n-test.true))

pub loop-n-preserved : goal.loop-n-preserved
loop-n-preserved c =
    columns_more _ _ _ _ _ _ _ c.loop-n.invariant c.loop-n-test.true c.of_column.auto.dst c.of_column.ensures

pub returns : goal.returns
unfolding column_inverses column_matrices
returns c =
    parts_all c.loop-n.invariant c.loop-n-test.false c.requires
