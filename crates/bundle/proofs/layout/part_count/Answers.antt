-- `bundle::layout::part_count` meets its contract. Each arm of the `match` has its law of `laws.Code`: the encodings (`count_lists`), 16 byte matrices a
-- round (`count_bytes`), 4 column matrices a round but the last (`count_columns`), one block matrix in each of the two sections behind them
-- (`count_block`), and nothing behind these (`count_none`). No product wraps: there are at most 14 rounds.
-- Assumes nothing.
use Rattle.bundle.proofs.laws.Code.{count_lists, count_bytes, count_columns, count_block, count_none}
use native.Mathlib.Omega.{arith}
use Rattle.bundle.proofs.layout.part_count.Goals as goal

pub returns-in-0 : goal.returns-in-0
returns-in-0 c = count_lists _ _ (omega arith) (search)

pub returns-in-1 : goal.returns-in-1
returns-in-1 c = count_bytes _ _ (omega arith) (search)

pub returns-in-2 : goal.returns-in-2
returns-in-2 c = count_columns _ _ (omega arith) (search)

pub returns-in-3 : goal.returns-in-3
returns-in-3 c = count_block _ _ (omega arith) (omega arith)

pub returns-in-4 : goal.returns-in-4
returns-in-4 c = count_block _ _ (omega arith) (omega arith)

pub returns-in_default : goal.returns-in_default
returns-in_default c = count_none _ _ (omega arith)
