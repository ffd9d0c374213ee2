-- `view::found::encodings` cuts the first section out of the bundle where it starts; by the starts that were found for the bundle that is the section
-- of its encodings (`encodings_found` of `laws.Serving`).
-- Assumes nothing.
use Rattle.view.proofs.laws.Serving.{encodings_found}
use Rattle.view.proofs.found.encodings.Goals as goal

pub returns : goal.returns
returns c =
    encodings_found _ _ c.requires.0 c.section_from.ensures
