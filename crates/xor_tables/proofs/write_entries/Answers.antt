-- `xor_tables::write_entries` writes the 16 rows of 8 bytes one behind the other. The loop's invariant, `Parts` of bits: the first i
-- rows stand in the front of dst. A turn lends the part of row i and gets the row back (`parts_more`). Behind the last dst is the rows
-- (`parts_all`), and the rows are the table, packed (`rows_packed` of `laws.Entries`).
-- Assumes nothing.
use mathlib.Core.Path.{◌∙◌}
use Rattle.bits.proofs.laws.Parts.{parts_none, part_lent, parts_more, parts_all}
use Rattle.xor_tables.proofs.laws.Xors.{rows_packed}
use native.Mathlib.Omega.{arith}
use Rattle.xor_tables.proofs.write_entries.Goals as goal

pub loop-i-init : goal.loop-i-init
loop-i-init c = parts_none (omega arith)

pub write_row-requires : goal.write_row-requires
write_row-requires c =
    (c.requires.0.small _ c.loop-i-test.true, c.requires.1, (part_lent c.loop-i.invariant c.loop-i-test.true).long)

pub loop-i-preserved : goal.loop-i-preserved
loop-i-preserved c =
    parts_more c.loop-i.invariant c.loop-i-test.true c.write_row.auto.dst c.write_row.ensures

pub returns : goal.returns
returns c =
    parts_all c.loop-i.invariant c.loop-i-test.false (search) ∙ rows_packed _
