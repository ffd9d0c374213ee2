-- `walker::over_next` meets its contract. The front of the memory is lent, of the size of the lookup's table, which fits (`size_most` of `laws.Tables`), and no more
-- than that is read; the lookup is made over what was read.
-- Assumes nothing.
use Prim.Native.Nat.{◌≤◌}
use native.Mathlib.Omega.{arith}
use lib.ListN.{length-take}
use Rattle.walker.specs.Tables.{table_room}
use Rattle.walker.proofs.laws.Tables.{size_most}
use Rattle.walker.proofs.over_next.Goals as goal

pub slice_bounds-receive-end : goal.slice_bounds-receive-end
slice_bounds-receive-end g c =
    let fits : c.place_of-p.result.size ≤ table_room = size_most 10 _ c.place_of-p.ensures in
    omega (arith, fits)

pub slice_bounds-receive-end-2 : goal.slice_bounds-receive-end-2
slice_bounds-receive-end-2 g c =
    let fits : c.place_of-p.result.size ≤ table_room = size_most 10 _ c.place_of-p.ensures in
    simp length-take (omega (arith, fits))
