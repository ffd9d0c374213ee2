-- `matrices::matrix::set_row` meets its contract. The two words of v go to places 2 i and 2 i + 1, which is `set_row` (`set_words` of `laws.Rows`).
-- By the `requires` both places are within the words.
-- Assumes nothing.
use Rattle.matrices.proofs.laws.Rows.{set_words}
use native.Mathlib.Omega.{arith}
use Rattle.matrices.proofs.matrix.set_row.Goals as goal

pub returns : goal.returns
returns c = set_words _ _ _ _ (omega arith)
