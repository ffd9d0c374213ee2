-- `catalogue_list::write_lines` meets its contract. The loop's invariant, `Parts` of bits: the first parts of 5 bytes hold the lines of the entries passed. A turn has an
-- entry (`given_at` of `laws.Lines`), and lends the next part, which comes back with its line (`lines_more`); behind the last all lines are put (`lines_all`).
-- Assumes nothing.
use mathlib.Core.Path.{sym, ◌∙◌}
use native.Mathlib.Omega.{arith}
use Rattle.bits.proofs.laws.Parts.{parts_none}
use Rattle.catalogue_list.proofs.laws.Lines.{given_at, lines_more, lines_all}
use Rattle.catalogue_list.proofs.write_lines.Goals as goal

pub loop-position-init : goal.loop-position-init
loop-position-init c = parts_none (omega (arith, c.requires))

pub unwrap-matrix-requires : goal.unwrap-matrix-requires
unwrap-matrix-requires c = given_at c.entry_at.ensures.result c.loop-position-test.true

pub loop-position-preserved : goal.loop-position-preserved
loop-position-preserved c =
    lines_more c.loop-position.invariant c.loop-position-test.true (sym c.unwrap-matrix.ensures ∙ c.entry_at.ensures.result)
    c.matrix_line.auto.line c.matrix_line.ensures

pub returns : goal.returns
returns c = lines_all c.loop-position.invariant (omega arith) c.requires
