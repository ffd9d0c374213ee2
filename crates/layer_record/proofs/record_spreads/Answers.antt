-- `layer_record::record_spreads` meets its contract. The loop's invariant, `Spreads` of `laws.Whole`: the first p spread lookups are made, and the first p entries of the
-- memory are theirs. A turn makes lookup p and writes what is recorded of it over its part (`spreads_more`).
-- Assumes nothing.
use Rattle.layer_record.proofs.laws.Whole.{spreads_none, spreads_more}
use Rattle.layer_record.proofs.record_spreads.Goals as goal

pub loop-p-init : goal.loop-p-init
loop-p-init g c =
    spreads_none c.requires.2

pub loop-p-preserved : goal.loop-p-preserved
loop-p-preserved g c =
    spreads_more c.loop-p.invariant (search) c.spread_of_width-offset.ensures (search) c.put_entry.ensures
