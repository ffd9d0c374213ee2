-- `narrow::halves::HalvesAugmented::beside_power` meets its contract. A vector of 32 bits is its low word, and the power is a half (`power_small` of `laws.Halves`), so
-- they stand beside each other in the word that is made (`made_left`), and nothing of it is lost (`made_fits`).
-- Assumes nothing.
use Rattle.narrow.proofs.laws.Halves.{power_small, made_left, made_fits}
use native.Mathlib.Omega.{arith}
use Rattle.narrow.proofs.halves.HalvesAugmented.beside_power.Goals as goal

pub overflow_mul-result : goal.overflow_mul-result
overflow_mul-result c =
    omega (arith, made_fits _ _ _ (omega arith) c.requires.0 (power_small _ c.requires.1))

pub overflow_add-result : goal.overflow_add-result
overflow_add-result c =
    omega (arith, made_fits _ _ _ (omega arith) c.requires.0 (power_small _ c.requires.1))

pub returns-clause-row : goal.returns-clause-row
returns-clause-row c =
    made_left _ _ _ (omega arith) c.requires.0 (search (arith, power_small))
