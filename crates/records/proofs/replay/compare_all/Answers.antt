-- `records::replay::compare_all` meets its contract. The loop's invariant, `Comparing` of `laws.Loops`: n is the first lookup of a stage or half, the lookups before it have
-- left the standing bytes and the area, and the record has their entries. A turn makes the lookups of the stage or half and compares them (`compare_asked`): where one
-- differs it is the first of all (`comparing_here`), else all are passed (`comparing_next`); behind the last the record is the walk's own (`comparing_all`). The measure is
-- the number of lookups left.
-- Assumes nothing.
use mathlib.Core.Path.{refl}
use Prim.Native.Nat.{◌+◌, ◌≤◌}
use Rattle.lookups.specs.InPlace.{offset_limit}
use Rattle.passes.proofs.laws.Places.{place_width}
use Rattle.records.proofs.laws.Loops.{Counted, all_some, all_within, all_fits}
use Rattle.records.proofs.laws.Loops.{comparing_none, record_room, own_room, compare_asked, found_below, comparing_here, comparing_next, comparing_all}
use native.Mathlib.Omega.{arith}
use Rattle.records.proofs.replay.compare_all.Goals as goal
use Rattle.records.proofs.replay.compare_all.Goals.{After-lookups_of-count}

-- the stage or half of a turn, and that no sum with its lookups wraps
counted : (c : After-lookups_of-count) → Counted c.args.rounds c.loop-n.n c.place_of-p.result c.width_of.result c.lookups_of-count.result
counted c = record { inside = omega arith; place = c.place_of-p.ensures; width = c.width_of.ensures.0; count = c.lookups_of-count.ensures }

fits : (c : After-lookups_of-count) → c.loop-n.n + c.lookups_of-count.result ≤ offset_limit
fits c = all_fits (counted c) c.loop-n.invariant.stands c.requires.rounds

pub loop-n-init : goal.loop-n-init
loop-n-init c =
    comparing_none c.load-standing.ensures refl

pub lookups_of-count-requires : goal.lookups_of-count-requires
lookups_of-count-requires c =
    place_width _ _ (omega arith) c.place_of-p.ensures c.width_of.ensures.0

pub overflow_add-next : goal.overflow_add-next
overflow_add-next c =
    omega (arith, fits (goal.at.overflow_add-next c).After-lookups_of-count)

pub overflow_mul-size : goal.overflow_mul-size
overflow_mul-size c =
    omega (arith, fits (goal.at.overflow_mul-size c).After-lookups_of-count)

pub overflow_mul-to : goal.overflow_mul-to
overflow_mul-to c =
    omega (arith, fits (goal.at.overflow_mul-to c).After-lookups_of-count)

pub slice_bounds-compare_layer-end : goal.slice_bounds-compare_layer-end
slice_bounds-compare_layer-end c =
    record_room c.loop-n.invariant (counted (goal.at.slice_bounds-compare_layer-end c).After-lookups_of-count) c.requires.record_sized

pub slice_bounds-own-end : goal.slice_bounds-own-end
slice_bounds-own-end c =
    own_room c.loop-n.invariant (counted (goal.at.slice_bounds-own-end c).After-lookups_of-count) c.requires.record_sized

pub compare_layer-other-requires : goal.compare_layer-other-requires
compare_layer-other-requires c =
    compare_asked c.loop-n.invariant (counted (goal.at.compare_layer-other-requires c).After-lookups_of-count) c.requires.record_sized c.requires.rounds c.requires.sized

pub overflow_add-result : goal.overflow_add-result
overflow_add-result c =
    let stage = counted (goal.at.overflow_add-result c).After-lookups_of-count in
    let below = found_below c.loop-n.invariant stage c.requires.record_sized c.compare_layer-other.ensures c.in-Some.is in
    omega (arith, fits (goal.at.overflow_add-result c).After-lookups_of-count, below)

pub returns-in-Some : goal.returns-in-Some
returns-in-Some c =
    comparing_here c.loop-n.invariant (counted (goal.at.returns-in-Some c).After-lookups_of-count) c.requires.record_sized c.compare_layer-other.ensures c.in-Some.is

pub loop-n-smaller : goal.loop-n-smaller
loop-n-smaller c =
    let stage = counted (goal.at.loop-n-smaller c).After-lookups_of-count in
    omega (arith, all_some stage, all_within stage c.loop-n.invariant.stands)

pub loop-n-preserved : goal.loop-n-preserved
loop-n-preserved c =
    comparing_next c.loop-n.invariant (counted (goal.at.loop-n-preserved c).After-lookups_of-count) c.requires.record_sized c.compare_layer-other.ensures c.in_default.is (search)

pub returns : goal.returns
returns c =
    comparing_all c.loop-n.invariant (omega arith)
