-- `moves::advance` meets its contract. The loop's invariant, `Going` of `laws.Advanced`: the lookups from the count given up to the count reached have left the
-- standing bytes and the area, and the offset is the last one's, none at the start (`going_none`). A turn goes on by what `step`
-- ensures, one lookup or more (`going_more`). The measure is the number of lookups left.
-- Assumes nothing.
use Rattle.moves.proofs.laws.Advanced.{going_none, going_more}
use Rattle.moves.proofs.advance.Goals as goal

pub loop-n-init : goal.loop-n-init
loop-n-init c = search going_none

pub loop-n-preserved : goal.loop-n-preserved
loop-n-preserved c = search going_more
