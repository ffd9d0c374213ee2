-- `lookups::layer::spread_of_width` meets its contract. Lookup p is made over its table, a part of the set, at the standing byte that `source_of` ensures for the
-- cipher (`spread_made` of `laws.Words`). The table ends within the set (`table_ends`).
-- Assumes nothing.
use Prim.Native.Nat.{◌+◌, ◌*◌, ◌≤◌}
use lib.ListN.{length}
use Rattle.network.specs.Sizes.{layer_bytes}
use Rattle.lookups.proofs.laws.Words.{table_ends, spread_made}
use native.Mathlib.Omega.{arith}
use Rattle.lookups.proofs.layer.spread_of_width.Goals as goal
use Rattle.lookups.proofs.layer.spread_of_width.Goals.{Start}
use Rattle.lookups.proofs.layer.spread_of_width.Given.{Over}

-- the tables end within the set, and so does that of lookup p
room : {g : Over} (c : Start g) → c.args.from + layer_bytes g.row.WIDTH ≤ length c.args.set.now
room c = rw c.requires.1 c.requires.0.stands.room

ends : {g : Over} (c : Start g) → c.args.from + c.args.p * (256 * g.row.WIDTH) + 256 * g.row.WIDTH ≤ length c.args.set.now
ends c = table_ends _ _ _ _ (room c) c.requires.0.within

pub slice_bounds-spread-end : goal.slice_bounds-spread-end
slice_bounds-spread-end g c =
    omega (arith, ends (goal.at.slice_bounds-spread-end g c).Start)

pub returns : goal.returns
returns g c =
    spread_made c.requires.1 (room (goal.at.returns g c).Start) c.requires.0.within c.source_of-i.ensures.0 c.spread-word.ensures
