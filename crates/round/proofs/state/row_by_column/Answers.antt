-- `round::state::row_by_column` meets its contract. The invariant, `Summed` of bits: the sum of the first q products of row r and column c. A turn
-- adds one product more, as the call ensures (`summed_more`); behind the last the sum is whole (`summed_all`). Every index is below 16.
-- Assumes nothing.
use mathlib.Core.Path.{refl}
use Rattle.bits.proofs.laws.Summed.{summed_none, summed_more, summed_all}
use Rattle.round.proofs.state.row_by_column.Goals as goal

pub loop-q-init : goal.loop-q-init
loop-q-init c = summed_none refl

pub loop-q-preserved : goal.loop-q-preserved
loop-q-preserved c = search summed_more

pub returns : goal.returns
returns c = search summed_all
