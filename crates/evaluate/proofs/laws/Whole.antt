-- Laws, not definitions: the statement of specs/Whole.antt. Each of the three calls is the definition's, at the walk that the one before it handed back.
-- Assumes nothing.
use mathlib.Core.Path.{ap, ◌∙◌}
use Prim.Native.Nat.{ℕ}
use Rattle.layout.specs.Stages.{lookups}
use Rattle.calls.specs.Calls.{to_stop, fetch, handed, block_left}
use Rattle.evaluate.specs.Whole.{WholeWalk}

pub whole_walk : (nr : ℕ) → WholeWalk nr
whole_walk nr c set x lent left w =
    w.fetches.block ∙ ap (block_left nr (fetch lent)) (w.moves.walk ∙ ap (handed nr (to_stop set (lookups nr))) w.opens.walk)
