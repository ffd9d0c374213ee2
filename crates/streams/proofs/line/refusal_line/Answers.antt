-- `streams::line::refusal_line` meets its contract: behind `refused N` a space, the second number and a newline (`refusal_line_written` of `laws.Written`).
-- Assumes nothing.
use Rattle.streams.proofs.laws.Written.{refusal_line_written}
use Rattle.streams.proofs.line.refusal_line.Goals as goal

pub returns : goal.returns
returns c =
    refusal_line_written _ c.put_cause-end.ensures.0 c.put-gap.ensures c.second.ensures c.put_decimal-number.ensures.0 c.put.ensures
