-- `keyed_tables::whole::write_set` has the round keys written into the front of their room and has `write_tables` write
-- every table into the tables' part of the memory. The front, read again, is the round keys (`source_of` of
-- `laws.Made`), and by `set_made` the memory is then the set of the key and the bundle.
-- Assumes nothing.
use mathlib.Core.Path.{ap}
use Rattle.round.specs.Key.{rounds_of}
use Rattle.layout.specs.Stages.{tables_bytes}
use Rattle.layout.proofs.laws.Lookup.{tables_in_set}
use Rattle.keyed_tables.proofs.laws.Made.{source_of, set_made}
use native.Mathlib.Omega.{arith}
use Rattle.keyed_tables.proofs.whole.write_set.Goals as goal

pub slice_bounds-write_tables-end : goal.slice_bounds-write_tables-end
slice_bounds-write_tables-end c =
    omega (arith, tables_in_set (rounds_of c.args.given.now.words), ap tables_bytes c.source-source.ensures.rounds)

pub returns : goal.returns
returns c =
    let e = c.source-source.ensures in
    let of = source_of _ _ e.cipher e.rounds e.bundle e.keys c.round_keys-n.ensures.front in
    set_made of c.args.memory.now _ _ c.tables_bytes-tables.ensures c.requires.2 (omega (arith, c.write_tables)) c.write_tables.ensures
