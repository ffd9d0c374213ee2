-- `round::state::mix_columns` meets its contract. Its matrix is that of the definition, number by number, so `MixColumns` is what `mix_by` ensures.
-- Assumes nothing.
use Rattle.round.specs.State.{MixColumns, mix_rows}
use Rattle.round.proofs.state.mix_columns.Goals as goal

pub returns : goal.returns
unfolding MixColumns mix_rows
returns c = c.mix_by.ensures
