-- `layout::cipher::shifted` meets its contract. The result is the definition's expression, and a column below 4 times 4 plus a row below 4 is below 16.
-- Assumes nothing.
use mathlib.Core.Path.{refl}
use Rattle.layout.specs.Stages.{shifted}
use native.Mathlib.Omega.{arith}
use Rattle.layout.proofs.cipher.shifted.Goals as goal

pub returns : goal.returns
unfolding shifted
returns c = (refl, omega arith)
