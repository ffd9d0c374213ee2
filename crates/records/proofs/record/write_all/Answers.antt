-- `records::record::write_all` meets its contract. The loop's invariant, `Recording` of `laws.Loops`: n is the first lookup of a stage or half, the lookups before it have
-- left the standing bytes and the area, and the first n entries of the memory are theirs. A turn makes the lookups of the stage or half and writes what is recorded of them
-- over its part (`recording_more`); behind the last the memory is the record (`recording_all`). The measure is the number of lookups left.
-- Assumes nothing.
use Prim.Native.Nat.{◌+◌, ◌≤◌}
use Rattle.lookups.specs.InPlace.{offset_limit}
use Rattle.passes.proofs.laws.Places.{place_width}
use Rattle.records.proofs.laws.Loops.{Counted, all_some, all_within, all_fits, layer_stands}
use Rattle.records.proofs.laws.Loops.{recording_none, layer_room, layer_part, recording_more, recording_all}
use native.Mathlib.Omega.{arith}
use Rattle.records.proofs.record.write_all.Goals as goal
use Rattle.records.proofs.record.write_all.Goals.{After-lookups_of}

-- the stage or half of a turn, and that no sum with its lookups wraps
counted : (c : After-lookups_of) → Counted c.args.rounds c.loop-n.n c.place_of-p.result c.width_of.result c.lookups_of.result
counted c = record { inside = omega arith; place = c.place_of-p.ensures; width = c.width_of.ensures.0; count = c.lookups_of.ensures }

fits : (c : After-lookups_of) → c.loop-n.n + c.lookups_of.result ≤ offset_limit
fits c = all_fits (counted c) c.loop-n.invariant.stands c.requires.rounds

pub loop-n-init : goal.loop-n-init
loop-n-init c = search recording_none

pub lookups_of-requires : goal.lookups_of-requires
lookups_of-requires c =
    place_width _ _ (omega arith) c.place_of-p.ensures c.width_of.ensures.0

pub overflow_add-next : goal.overflow_add-next
overflow_add-next c =
    omega (arith, fits (goal.at.overflow_add-next c).After-lookups_of)

pub overflow_mul-to : goal.overflow_mul-to
overflow_mul-to c =
    omega (arith, fits (goal.at.overflow_mul-to c).After-lookups_of)

pub slice_bounds-record_layer-end : goal.slice_bounds-record_layer-end
slice_bounds-record_layer-end c =
    layer_room c.loop-n.invariant (counted (goal.at.slice_bounds-record_layer-end c).After-lookups_of)

pub record_layer-requires : goal.record_layer-requires
record_layer-requires c =
    let stage = counted (goal.at.record_layer-requires c).After-lookups_of in (
      layer_stands stage c.loop-n.invariant.stands c.requires.rounds c.requires.sized,
      layer_part c.loop-n.invariant stage,
    )

pub loop-n-smaller : goal.loop-n-smaller
loop-n-smaller c =
    let stage = counted (goal.at.loop-n-smaller c).After-lookups_of in
    omega (arith, all_some stage, all_within stage c.loop-n.invariant.stands)

pub loop-n-preserved : goal.loop-n-preserved
loop-n-preserved c =
    recording_more c.loop-n.invariant (counted (goal.at.loop-n-preserved c).After-lookups_of) c.record_layer.ensures (search)

pub returns : goal.returns
returns c =
    recording_all c.loop-n.invariant (omega arith) c.requires.record_sized
