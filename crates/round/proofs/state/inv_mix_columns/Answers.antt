-- `round::state::inv_mix_columns` meets its contract. Its matrix is that of the definition, number by number, so `InvMixColumns` is what `mix_by`
-- ensures.
-- Assumes nothing.
use Rattle.round.specs.State.{InvMixColumns, inv_mix_rows}
use Rattle.round.proofs.state.inv_mix_columns.Goals as goal

pub returns : goal.returns
unfolding InvMixColumns inv_mix_rows
returns c = c.mix_by.ensures
