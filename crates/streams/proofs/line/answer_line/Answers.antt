-- `streams::line::answer_line` meets its contract: the digits, and a newline behind them (`answer_line_written` of `laws.Written`).
-- Assumes nothing.
use Rattle.streams.proofs.laws.Written.{answer_line_written}
use Rattle.streams.proofs.line.answer_line.Goals as goal

pub returns : goal.returns
returns c =
    answer_line_written _ c.hex_digits-digits.ensures c.put-end.ensures c.put.ensures
