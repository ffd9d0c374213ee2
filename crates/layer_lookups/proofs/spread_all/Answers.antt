-- `layer_lookups::spread_all` meets its contract. The loop's invariant, `Spreads` of `laws.Whole`: p spread lookups are made. A turn makes lookup p (`spreads_more`).
-- Assumes nothing.
use Rattle.layer_lookups.proofs.laws.Whole.{spreads_none, spreads_more}
use Rattle.layer_lookups.proofs.spread_all.Goals as goal

pub loop-p-init : goal.loop-p-init
loop-p-init g c = spreads_none

pub loop-p-preserved : goal.loop-p-preserved
loop-p-preserved g c =
    spreads_more c.loop-p.invariant (search) c.spread_of_width.ensures
