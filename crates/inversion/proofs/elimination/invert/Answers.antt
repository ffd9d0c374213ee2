-- `inversion::elimination::invert` meets its contract. `start` lays the matrix out beside the identity, and `eliminate` ensures that its answer and the right
-- side are what the elimination of these ends in. Where it is accepted, `take_right` stores the right side, which is the inverse (`inverted` of
-- `laws.Loops`); else there is none, and b is as it was (`not_inverted`). The laws' premises are what the calls ensure and the test.
-- Assumes nothing.
use mathlib.Core.Path.{ap, ◌∙◌}
use Rattle.std.specs.Prelude.{is_ok}
use Rattle.std.proofs.lemmas.Result.{err_from_is_err_and}
use Rattle.inversion.proofs.laws.Loops.{inverted, not_inverted}
use Rattle.inversion.proofs.elimination.invert.Goals as goal

pub returns-in_err-eliminate : goal.returns-in_err-eliminate
returns-in_err-eliminate g c =
    let refused = err_from_is_err_and _ c.from_residual.ensures.1 in
    let done = not_inverted _ _ _ _ _ _ c.start.ensures.left c.start.ensures.right c.eliminate.ensures c.args.b.now (ap is_ok c.in_err-eliminate.was) in
    record { answer = ap is_ok refused.1 ∙ done.0; rows = done.1 }

pub returns : goal.returns
returns g c =
    let done = inverted _ _ _ _ _ _ c.start.ensures.left c.start.ensures.right c.eliminate.ensures _ _
    (ap is_ok c.in_ok-eliminate.was) c.take_right.ensures in
    record { answer = done.0; rows = done.1 }
