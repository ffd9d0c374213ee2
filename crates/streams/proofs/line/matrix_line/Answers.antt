-- `streams::line::matrix_line` meets its contract: four digits, and a newline behind them (`matrix_line_written` of `laws.Written`).
-- Assumes nothing.
use mathlib.Core.Path.{◌≡◌, sym, ◌∙◌}
use lib.ListN.{take}
use lib.Seq.{take-length}
use Rattle.streams.proofs.laws.Written.{matrix_line_written}
use Rattle.streams.proofs.line.matrix_line.Goals as goal

pub returns : goal.returns
returns c =
    let whole : take 4 c.write_digits.new.out ≡ c.write_digits.new.out = rw c.write_digits.auto.out at (take-length c.write_digits.new.out) in
    matrix_line_written _ (sym whole ∙ (rw c.from.ensures at c.write_digits.ensures)) c.put-end.ensures c.put.ensures
