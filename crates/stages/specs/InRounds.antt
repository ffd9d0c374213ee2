-- A stage's round is in range in one way at most, as a ghost field asks of its fact. Nothing is defined here.
use Rattle.std.specs.Prelude.{ℕ}
use Rattle.std.specs.Coded.{×_prop, le_prop}
use Rattle.layout.specs.Stages.{InRounds}
use Rattle.layout.specs.declared.stage.Stage.{Stage}
use Rattle.layout.specs.declared.stage.Stage.TheVariants.{Entry, First, Second, Exit, Beyond}

pub in_rounds_prop : (nr : ℕ) (s : Stage) → IsProp (InRounds nr s)
in_rounds_prop nr Entry = le_prop
in_rounds_prop nr (First r) = ×_prop le_prop le_prop
in_rounds_prop nr (Second r) = ×_prop le_prop le_prop
in_rounds_prop nr Exit = le_prop
in_rounds_prop nr Beyond = λ x. absurd x
