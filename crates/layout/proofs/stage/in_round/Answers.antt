-- `layout::stage::in_round` meets its contract. A round has two halves of 112 lookups: below 112 it is the first (`first_half` of `laws.Place`), else
-- the second (`second_half`). The products are small: at most twelve rounds of 57,344 bytes are before.
-- Assumes nothing.
use Rattle.layout.proofs.laws.Place.{first_half, second_half}
use native.Mathlib.Omega.{arith}
use Rattle.layout.proofs.stage.in_round.Goals as goal

pub returns-in-0-to-111 : goal.returns-in-0-to-111
returns-in-0-to-111 c = first_half _ _ (omega arith) (search)

pub returns-in_default : goal.returns-in_default
returns-in_default c = second_half _ _ (omega arith) (search)
