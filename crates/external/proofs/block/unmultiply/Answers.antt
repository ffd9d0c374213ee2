-- `external::block::unmultiply`: the matrix that the bytes write has an inverse by the `requires`, so its inversion is not refused, and `times` multiplies by
-- the inverse (`multiplied_back` of `laws.Code`).
-- Assumes nothing.
use mathlib.Core.Path.{◌∙◌}
use Rattle.external.proofs.laws.Code.{multiplied_back}
use native.Mathlib.Omega.{arith}
use Rattle.external.proofs.block.unmultiply.Goals as goal

pub unwrap-requires : goal.unwrap-requires
unwrap-requires c = c.invert_bytes.ensures.answer ∙ c.requires.inverse

pub returns : goal.returns
returns c =
    multiplied_back _ c.requires.inverse (λ i. (c.type_inv.m i).fits) _ _ _ _ (omega arith)
    c.invert_bytes.ensures.rows c.times.ensures
