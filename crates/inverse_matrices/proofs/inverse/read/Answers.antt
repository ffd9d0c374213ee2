-- `inverse_matrices::inverse::read`: the matrix that the bytes write has an inverse by the `requires`, so its inversion, by either call, finds it
-- (`inverse_found` of inversion) and leaves its words in the front of b (`inverse_words`; the premises are what the call ensures).
-- Assumes nothing.
use mathlib.Core.Path.{◌∙◌}
use Rattle.inversion.proofs.laws.Inverses.{inverse_found, inverse_words}
use Rattle.inverse_matrices.proofs.inverse.read.Goals as goal

pub unwrap-requires : goal.unwrap-requires
unwrap-requires c =
    c.invert_bytes.ensures.answer ∙ inverse_found _ c.args.p.now (λ i. (c.type_inv.p i).fits) c.requires.invertible

pub unwrap-requires-else-w-le-MOST_BYTES : goal.unwrap-requires-else-w-le-MOST_BYTES
unwrap-requires-else-w-le-MOST_BYTES c =
    c.invert_bytes-else-w-le-MOST_BYTES.ensures.answer ∙ inverse_found _ c.args.p.now (λ i. (c.type_inv.p i).fits) c.requires.invertible

pub returns-then-w-le-MOST_BYTES : goal.returns-then-w-le-MOST_BYTES
returns-then-w-le-MOST_BYTES c =
    inverse_words _ c.args.p.now (λ i. (c.type_inv.p i).fits) _ _ c.requires.invertible c.requires.room c.invert_bytes.ensures.rows

pub returns-else-w-le-MOST_BYTES : goal.returns-else-w-le-MOST_BYTES
returns-else-w-le-MOST_BYTES c =
    inverse_words _ c.args.p.now (λ i. (c.type_inv.p i).fits) _ _ c.requires.invertible c.requires.room
    c.invert_bytes-else-w-le-MOST_BYTES.ensures.rows
