-- `layout::stage::placed` meets its contract. The first 16 lookups of a layer are its spread lookups (`spread_place` of `laws.Place`), the others its
-- XOR lookups (`xor_place`). A spread table's offset is below 16 times 4,096, so that no product or sum wraps.
-- Assumes nothing.
use Rattle.layout.proofs.laws.Place.{spread_place, xor_place}
use native.Mathlib.Omega.{arith}
use Rattle.layout.proofs.stage.placed.Goals as goal

pub returns-in-0-to-15 : goal.returns-in-0-to-15
returns-in-0-to-15 c = spread_place _ _ _ _ (omega arith)

pub returns-in_default : goal.returns-in_default
returns-in_default c = xor_place _ _ _ _ (omega arith)
