-- `keyed_tables::whole::write_all` writes table after table. The loop's invariant, `PartsAt` of bits over the tables'
-- offsets: the memory begins with the first n tables. Before the loop that is none; a turn lends the part at the place
-- of table n, which lies within the memory (`table_room` of `laws.Set`) and comes back with the table of that stage and
-- index, which is table n (`table_made`, `table_next`); behind the last turn the memory is all tables (`tables_all`).
-- What is chosen for table n, from the columns lent whole (`columns_lent`) and for a round that there is (`round_at`),
-- begins with the inverse that it is made with (`inverse_chosen`).
-- Assumes nothing.
use mathlib.Core.Path.{refl, ◌∙◌}
use Prim.Native.Nat.{◌+◌, ◌≤◌}
use lib.ListN.{length}
use Rattle.bits.proofs.laws.Lists.{length_cut}
use Rattle.bits.proofs.laws.Parts.{parts_at_none}
use Rattle.layout.proofs.laws.Instance.{first_offset}
use Rattle.layout.proofs.laws.Lookup.{Stands, stands, tables_in_set}
use Rattle.layout.proofs.laws.Numbers.{round_at}
use Rattle.layout.proofs.laws.Rounds.{most_bytes}
use Rattle.keyed_tables.proofs.laws.Set.{column_count, inverse_chosen, columns_lent, table_made, table_room, table_next, tables_all}
use native.Mathlib.Omega.{arith}
use Rattle.keyed_tables.proofs.whole.write_all.Goals as goal
use Rattle.keyed_tables.proofs.whole.write_all.Goals.{After-place_of-place}

-- the place of table n in a turn, whose part lies within the memory
here : (c : After-place_of-place) → Stands c.args.source.now.opened.rounds c.loop-n.n c.place_of-place.result
here c = stands (omega arith) c.place_of-place.ensures

room : (c : After-place_of-place) → c.place_of-place.result.offset + c.place_of-place.result.size ≤ length c.loop-n.memory
room c = table_room _ refl refl c.requires.2 c.loop-n.invariant (omega arith) _ c.place_of-place.ensures

pub loop-n-init : goal.loop-n-init
loop-n-init c = parts_at_none (first_offset _)

pub overflow_add-e : goal.overflow_add-e
overflow_add-e c =
    omega (arith, here (goal.at.overflow_add-e c).After-place_of-place, tables_in_set c.args.source.now.opened.rounds, most_bytes _ c.args.source.now.opened.known)

pub chosen-inverse-requires : goal.chosen-inverse-requires
chosen-inverse-requires c =
    let nr = c.args.source.now.opened.known in
    (nr, columns_lent _ _ _ _ (column_count _) c.requires.0, round_at _ _ _ c.place_of-place.ensures (omega (arith, nr)) (omega arith))

pub slice_bounds-write-end : goal.slice_bounds-write-end
slice_bounds-write-end c =
    omega (arith, room (goal.at.slice_bounds-write-end c).After-place_of-place)

pub write-requires : goal.write-requires
write-requires c =
    let nr = c.args.source.now.opened.known in
    let at = here (goal.at.write-requires c).After-place_of-place in
    let within = room (goal.at.write-requires c).After-place_of-place in
    let e = c.place_of-place.ensures in (
      inverse_chosen _ _ _ e _ _ _ _ (omega (arith, nr)) (omega arith) c.requires.0 c.requires.1 c.chosen-inverse.ensures,
      record { stage = round_at _ _ _ e (omega (arith, nr)) (omega arith); index = at.index; size = length_cut _ _ _ within ∙ at.kind },
    )

pub loop-n-preserved : goal.loop-n-preserved
loop-n-preserved c =
    let e = c.place_of-place.ensures in
    table_next _ refl refl c.requires.2 c.loop-n.invariant (omega arith) _ e _
    (omega (arith, c.write)) (table_made _ _ _ e _ _ _ (omega arith) c.write.ensures)

pub returns : goal.returns
returns c =
    tables_all _ refl refl c.requires.2 c.loop-n.invariant (omega arith)
