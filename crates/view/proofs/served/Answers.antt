-- `view::served` meets its contract. `serve` answers the part by the view that `view_of` makes, and the view of a bundle serves the bundle's
-- parts (`serves` of `laws.Serving`).
-- Assumes nothing.
use mathlib.Core.Path.{ap, ◌∙◌}
use Rattle.view.specs.Views.{served_by}
use Rattle.view.specs.declared.View.{View}
use Rattle.view.proofs.laws.Serving.{serves}
use Rattle.view.proofs.served.Goals as goal

pub returns : goal.returns
returns c =
    c.serve.ensures
    ∙ ap (λ (d : View). served_by d c.args.p) c.view_of.ensures
    ∙ serves c.args.bundle c.args.p
