-- `view::found::part` has the part from the starts; as they were found for the bundle, it is the bundle's (`part_found` of `laws.Serving`).
-- Assumes nothing.
use Rattle.view.proofs.laws.Serving.{part_found}
use Rattle.view.proofs.found.part.Goals as goal

pub returns : goal.returns
returns c =
    part_found _ _ c.requires.0 c.args.p c.part_in.ensures
