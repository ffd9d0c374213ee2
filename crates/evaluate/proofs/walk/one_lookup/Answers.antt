-- `evaluate::walk::one_lookup` meets its contract. Each way out has a law of `laws.Calls`, whose premises are the tests on the way and what `refused`
-- ensures: no lookup is left (`no_lookup`), the table lent has another length than the lookup's (`wrong_table`); and behind `lookup_in`, which the table fits
-- (`table_fits` of passes), the lookup is made, and the walk keeps the cipher, as `changed` ensures (`one_done`). They are over the sizes of a set.
-- Assumes nothing.
use mathlib.Core.Path.{refl}
use Prim.Native.Nat.{◌<◌}
use lib.ListN.{length}
use Rattle.layout.specs.Stages.{lookups}
use Rattle.layout.proofs.laws.Rounds.{sizes_of}
use Rattle.lookups.specs.InPlace.{Fits}
use Rattle.passes.proofs.laws.Places.{table_fits}
use Rattle.evaluate.proofs.laws.Calls.{no_lookup, wrong_table, one_done}
use native.Mathlib.Omega.{arith}
use Rattle.evaluate.proofs.walk.one_lookup.Goals as goal

pub returns-then-n-lookups_in : goal.returns-then-n-lookups_in
returns-then-n-lookups_in c =
    no_lookup (sizes_of c.lookups_in.ensures refl) _ _ _ c.refused.ensures (search)

pub returns-then-table-p : goal.returns-then-table-p
returns-then-table-p c =
    wrong_table (sizes_of c.lookups_in.ensures refl) _ _ _ _ (search) c.place_of-p.ensures c.refused-then-table-p.ensures (search)

pub lookup_in-read-requires : goal.lookup_in-read-requires
lookup_in-read-requires c =
    let left : c.args.walk.count < lookups c.args.rounds = omega arith in
    let fits : Fits c.place_of-p.result.stage c.place_of-p.result.index c.place_of-p.result.offset (length c.args.table.now) =
    table_fits _ _ left c.place_of-p.ensures c.requires c.if-table-p.false in
    fits

pub returns : goal.returns
returns c =
    one_done (sizes_of c.lookups_in.ensures refl) _ _ _ _ (search) c.place_of-p.ensures refl c.if-table-p.false c.lookup_in-read.ensures
    c.changed.ensures refl
