-- `keyed_tables::single::write_table` has the round keys written into the front of their room, works out the one
-- inverse that the table is made with, and has `write` write the table. That front, read again, is the round keys
-- (`source_of` of `laws.Made`), so by `one_made` the table is that of the key and the bundle. What is worked out begins
-- with the inverse, as `write` asks: the search finds it.
-- Assumes nothing.
use Rattle.keyed_tables.proofs.laws.Made.{source_of, one_made}
use Rattle.keyed_tables.proofs.single.write_table.Goals as goal

pub returns : goal.returns
returns c =
    let e = c.source-source.ensures in
    let of = source_of _ _ e.cipher e.rounds e.bundle e.keys c.round_keys-n.ensures.front in
    one_made of c.args.s c.args.j c.write.ensures
