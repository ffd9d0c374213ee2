-- `round::state::inv_shift_rows` meets its contract. Three times the row to the left is the row to the right, as `InvShiftRows` has it (`turn_right` of
-- `laws.State`).
-- Assumes nothing.
use mathlib.Core.Path.{◌∙◌}
use Rattle.round.proofs.laws.State.{turn_right}
use Rattle.round.proofs.state.inv_shift_rows.Goals as goal

pub returns : goal.returns
returns c = c.turn_rows.ensures ∙ turn_right _
