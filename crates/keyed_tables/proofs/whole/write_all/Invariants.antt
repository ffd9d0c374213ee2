use Rattle.bits.proofs.laws.Parts.{PartsAt}
use Rattle.layout.specs.Stages.{lookups, table_offset}
use Rattle.whitebox.specs.Bundles.{codings_of}
use Rattle.whitebox.specs.Parts.{parts_for}
use Rattle.whitebox.specs.Tables.{table_of}
use Rattle.keyed_tables.proofs.whole.write_all.Given as goal

abbrev pub invariant-loop-n : goal.invariant-loop-n
invariant-loop-n l =
    let source = l.source in
    let table = table_of (parts_for source.cipher l.rounds source.keys.now) (codings_of l.rounds source.opened.bundle.now) l.rounds in
    PartsAt (lookups l.rounds) (table_offset l.rounds) table l.initial.memory l.memory l.n
