-- `streams::line::put_cause` meets its contract: the word is written and then the number, which is the cause (`cause_written` of `laws.Written`).
-- Assumes nothing.
use Rattle.streams.proofs.laws.Written.{cause_written}
use Rattle.streams.proofs.line.put_cause.Goals as goal

pub returns : goal.returns
returns c =
    cause_written _ c.put-end.ensures c.cause.ensures c.put_decimal.ensures.0 c.put_decimal.ensures.1
