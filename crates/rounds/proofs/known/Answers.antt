-- `rounds::known` meets its contract. Each arm of the `match` has its law of `laws.Known`: the number is 10 (`is_ten`), 12 (`is_twelve`), 14
-- (`is_fourteen`), or none of the three (`is_none`).
-- Assumes nothing.
use Rattle.rounds.proofs.laws.Known.{is_ten, is_twelve, is_fourteen, is_none}
use native.Mathlib.Omega.{arith}
use Rattle.rounds.proofs.known.Goals as goal

pub returns-in-10 : goal.returns-in-10
returns-in-10 c = is_ten _ (omega arith)

pub returns-in-12 : goal.returns-in-12
returns-in-12 c = is_twelve _ (omega arith)

pub returns-in-14 : goal.returns-in-14
returns-in-14 c = is_fourteen _ (omega arith)

pub returns-in_default : goal.returns-in_default
returns-in_default c = is_none _ (λ e. omega arith) (λ e. omega arith) (λ e. omega arith)
