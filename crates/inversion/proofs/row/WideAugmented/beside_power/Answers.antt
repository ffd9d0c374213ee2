-- `inversion::row::WideAugmented::beside_power` meets its contract. The row beside v is the vector whose only one is digit s, which a vector of 128 bits has (`power_fits`).
-- Assumes nothing.
use mathlib.Core.Path.{◌∙◌}
use Rattle.bits.proofs.laws.Words.{power_fits}
use Rattle.inversion.proofs.row.WideAugmented.beside_power.Goals as goal

pub returns-clause-inverse : goal.returns-clause-inverse
returns-clause-inverse c = c.power.ensures ∙ power_fits _ c.requires.1
