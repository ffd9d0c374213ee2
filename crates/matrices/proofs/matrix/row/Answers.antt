-- `matrices::matrix::row` meets its contract. The two words at places 2 i and 2 i + 1 are row i by definition, and by the `requires` both places
-- are within the words.
-- Assumes nothing.
use Rattle.bits.specs.Words.{wide}
use Rattle.matrices.specs.Rows.{row_at}
use borrow.Author.Rules.{rules}
use Rattle.matrices.proofs.matrix.row.Goals as goal

pub returns : goal.returns
unfolding wide row_at
returns c = search rules
