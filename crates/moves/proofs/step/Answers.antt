-- `moves::step` meets its contract. `place_of` ensures the place of lookup n. Where n is the first lookup of a stage or half and the last is not behind the
-- stop, `layer_in` makes them all (`all_made` of `laws.Advanced`); else `look_up_at` makes one there, which is lookup n (`lookup_made` of passes), and so a
-- part of the move (`one_made`). What the two ask is laws of the place (`laws.Places` of passes): its width, and that its tables lie within the set.
-- Assumes nothing.
use Prim.Native.Nat.{◌<◌}
use Rattle.layout.specs.Stages.{lookups}
use Rattle.passes.proofs.laws.Places.{place_width, place_holds, stands_in, lookup_made}
use Rattle.moves.proofs.laws.Advanced.{one_made, all_made}
use native.Mathlib.Omega.{arith}
use Rattle.moves.proofs.step.Goals as goal

pub lookups_of-all-requires : goal.lookups_of-all-requires
lookups_of-all-requires c =
    let within : c.args.n < lookups c.args.rounds = omega (arith, c.requires) in
    place_width _ _ within c.place_of-p.ensures (search)

pub layer_in-last-requires : goal.layer_in-last-requires
layer_in-last-requires c =
    let within : c.args.n < lookups c.args.rounds = omega (arith, c.requires) in
    let asked = c.requires.0 in
    place_holds _ _ within c.place_of-p.ensures asked.rounds asked.sized c.if-index-eq0.true

pub returns-then-all-stop : goal.returns-then-all-stop
returns-then-all-stop c = search all_made

pub look_up_at-read-requires : goal.look_up_at-read-requires
look_up_at-read-requires c =
    let within : c.args.n < lookups c.args.rounds = omega (arith, c.requires) in
    let asked = c.requires.0 in
    stands_in _ _ within c.place_of-p.ensures asked.rounds (omega (arith, asked.sized))

pub returns : goal.returns
returns c =
    let within : c.args.n < lookups c.args.rounds = omega (arith, c.requires) in
    one_made (search) (lookup_made within c.place_of-p.ensures c.look_up_at-read.ensures)
