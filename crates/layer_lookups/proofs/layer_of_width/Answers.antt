-- `layer_lookups::layer_of_width` meets its contract. The spread lookups, then the XOR lookups, then the sums of the area that they leave, which is `sums_in`, and
-- the place of the entry that the last of them read, in the last table (`layer_made` of `laws.Whole`). That table ends where those of the stage or half do
-- (`last_ends`), so no sum wraps.
-- Assumes nothing.
use Prim.Native.Nat.{◌+◌, ◌-◌, ◌*◌, ◌≤◌}
use lib.ListN.{length}
use Rattle.lookups.specs.InPlace.{Width}
use Rattle.layer_lookups.proofs.laws.Whole.{Count, counted, last_ends, layer_made}
use native.Mathlib.Omega.{arith}
use Rattle.layer_lookups.proofs.layer_of_width.Goals as goal
use Rattle.layer_lookups.proofs.layer_of_width.Goals.{After-lookups_of-last}
use Rattle.layer_lookups.proofs.layer_of_width.Given.{Over}

-- the width, the number of lookups, and where the last table ends
width : {g : Over} (c : After-lookups_of-last g) → Width g.row.WIDTH
width c = rw c.requires.1 c.requires.0.width

all : {g : Over} (c : After-lookups_of-last g) → Count g.row.WIDTH c.lookups_of-last.result
all c = counted _ _ (width c) c.lookups_of-last.ensures

ends : {g : Over} (c : After-lookups_of-last g) → c.args.from + 4096 * g.row.WIDTH + (c.lookups_of-last.result - 1 - 16) * 128 + 128 ≤ length c.args.set.now
ends c = last_ends _ _ _ _ (width c) c.lookups_of-last.ensures (rw c.requires.1 c.requires.0.room)

pub overflow_sub-last : goal.overflow_sub-last
overflow_sub-last g c =
    omega (arith, all (goal.at.overflow_sub-last g c).After-lookups_of-last)

pub overflow_sub-table : goal.overflow_sub-table
overflow_sub-table g c =
    omega (arith, all (goal.at.overflow_sub-table g c).After-lookups_of-last)

pub overflow_mul-table-2 : goal.overflow_mul-table-2
overflow_mul-table-2 g c =
    omega (arith, ends (goal.at.overflow_mul-table-2 g c).After-lookups_of-last)

pub overflow_add-table-2 : goal.overflow_add-table-2
overflow_add-table-2 g c =
    omega (arith, ends (goal.at.overflow_add-table-2 g c).After-lookups_of-last)

pub xor_place-requires : goal.xor_place-requires
xor_place-requires g c =
    (omega (arith, ends (goal.at.xor_place-requires g c).After-lookups_of-last, c.requires.0.short), c.xor_all-e.ensures.below)

pub returns : goal.returns
returns g c =
    layer_made c.requires.1 (width (goal.at.returns g c).After-lookups_of-last) c.lookups_of-last.ensures c.spread_all.ensures c.xor_all-e.ensures
    c.finish.ensures.0 c.finish.ensures.1 c.xor_place.ensures
