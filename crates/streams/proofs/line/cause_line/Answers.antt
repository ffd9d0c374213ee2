-- `streams::line::cause_line` meets its contract: a newline behind `refused N` (`cause_line_written` of `laws.Written`).
-- Assumes nothing.
use Rattle.streams.proofs.laws.Written.{cause_line_written}
use Rattle.streams.proofs.line.cause_line.Goals as goal

pub returns : goal.returns
returns c =
    cause_line_written _ c.put_cause-end.ensures.0 c.put.ensures
