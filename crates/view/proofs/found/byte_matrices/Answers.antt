-- `view::found::byte_matrices` cuts the second section out of the bundle where it starts; by the starts that were found for the bundle that is the
-- section of its byte matrices (`byte_matrices_found` of `laws.Serving`).
-- Assumes nothing.
use Rattle.view.proofs.laws.Serving.{byte_matrices_found}
use Rattle.view.proofs.found.byte_matrices.Goals as goal

pub returns : goal.returns
returns c =
    byte_matrices_found _ _ c.requires.0 c.section_from.ensures
