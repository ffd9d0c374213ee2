-- `layer_record::record_of_width` meets its contract. The memory is lent in two parts, for the spread lookups and for the XOR lookups (`memory_split` of `laws.Whole`), which
-- come back with what is recorded of them; behind these the sums are taken and the area is cleared (`layer_recorded`).
-- Assumes nothing.
use mathlib.Core.Path.{◌≡◌, refl, sym, ap, ◌∙◌}
use Prim.Native.Nat.{ℕ, ◌+◌, ◌*◌}
use lib.ListN.{length}
use Rattle.network.specs.Order.{xors, layer_lookups}
use Rattle.layer_record.specs.Entries.{entry_size}
use Rattle.layer_record.proofs.laws.Whole.{spread_bytes, layer_recorded, memory_split, rest_long}
use native.Mathlib.Omega.{arith}
use Rattle.layer_record.proofs.record_of_width.Goals as goal
use Rattle.layer_record.proofs.record_of_width.Goals.{Start}
use Rattle.layer_record.proofs.record_of_width.Given.{Over}

-- the memory is that of the spread lookups and that of the XOR lookups
split : {g : Over} (c : Start g) → length c.args.recorded.now ≡ spread_bytes + xors g.row.WIDTH * entry_size
split c = memory_split _ _ (c.requires.2 ∙ ap (λ (m : ℕ). layer_lookups m * entry_size) (sym c.requires.1))

pub slice_bounds-record_spreads-end : goal.slice_bounds-record_spreads-end
slice_bounds-record_spreads-end g c =
    omega (arith, split (goal.at.slice_bounds-record_spreads-end g c).Start)

pub record_xors-requires : goal.record_xors-requires
record_xors-requires g c = (
  record { width = rw c.requires.1 c.requires.0.width; room = rw c.requires.1 c.requires.0.room },
  rest_long c.record_spreads.ensures c.args.recorded.now _ (split (goal.at.record_xors-requires g c).Start),
)

pub returns : goal.returns
returns g c =
    layer_recorded c.record_spreads.ensures c.args.recorded.now _ (split (goal.at.returns g c).Start) c.requires.1 refl c.record_xors.ensures
    c.finish.ensures.0 c.finish.ensures.1
