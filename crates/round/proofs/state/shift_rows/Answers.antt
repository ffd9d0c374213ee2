-- `round::state::shift_rows` meets its contract. The rows are turned to the left by 1 times the row, which is the row as in `ShiftRows` (`turn_left` of
-- `laws.State`).
-- Assumes nothing.
use mathlib.Core.Path.{◌∙◌}
use Rattle.round.proofs.laws.State.{turn_left}
use Rattle.round.proofs.state.shift_rows.Goals as goal

pub returns : goal.returns
returns c = c.turn_rows.ensures ∙ turn_left _
