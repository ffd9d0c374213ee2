-- `stages::table::write` makes the spread table below 16 (`table_spread` of crate network), and from 16 on the XOR table of the stage's width and
-- first number (`table_xor`). The memory has the size that a table of that kind has, which the search finds for the first call. `xor_asked` has
-- all that the second asks: this, a width that XORs are made for, and numbers in range.
-- Assumes nothing.
use Rattle.layout.specs.Stages.{numbers_of}
use Rattle.network.proofs.laws.Sizes.{table_spread, table_xor}
use Rattle.stages.proofs.laws.Tables.{xor_asked}
use Rattle.stages.proofs.table.write.Goals as goal

pub returns-then-j-lt-SPREADS : goal.returns-then-j-lt-SPREADS
returns-then-j-lt-SPREADS c = table_spread _ _ _ _ _ (search) (search)

pub xor_table-requires : goal.xor_table-requires
xor_table-requires c =
    let p = c.requires.1 in
    let asked = xor_asked _ c.args.s _ _ _ _ c.width_of.ensures.0 c.first_number.ensures.0 p.stage c.if-j-lt-SPREADS.false p.index p.size in
    record { width = asked.0; results = asked.1; index = asked.2; room = asked.3 }

pub returns-else-j-lt-SPREADS : goal.returns-else-j-lt-SPREADS
unfolding numbers_of
returns-else-j-lt-SPREADS c =
    table_xor _ _ _ _ _ _ _ (search) c.width_of.ensures.0 c.first_number.ensures.0 c.xor_table.ensures
