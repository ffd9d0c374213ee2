-- `bundle::layout::part_size` meets its contract. Each arm of the `match` has its law of `laws.Code`: an encoding has 8 bytes, a byte matrix 8, a
-- column matrix 128, a block matrix 2,048.
-- Assumes nothing.
use Rattle.bundle.proofs.laws.Code.{size_encoding, size_byte, size_column, size_block}
use native.Mathlib.Omega.{arith}
use Rattle.bundle.proofs.layout.part_size.Goals as goal

pub returns-in-0 : goal.returns-in-0
returns-in-0 c = size_encoding _ (omega arith)

pub returns-in-1 : goal.returns-in-1
returns-in-1 c = size_byte _ (omega arith)

pub returns-in-2 : goal.returns-in-2
returns-in-2 c = size_column _ (omega arith)

pub returns-in_default : goal.returns-in_default
returns-in_default c = size_block _ (omega arith)
