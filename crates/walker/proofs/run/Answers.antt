-- `walker::run` meets its contract. A block that the start refuses, a table that is too short, and what is told behind the last table: each is what document 01 has
-- the walker write for the bytes read (`runs_refused`, `runs_short` and `runs_whole` of `laws.Runs`, whose premises are what the calls ensure).
-- Assumes nothing.
use Rattle.walker.proofs.laws.Runs.{runs_refused, runs_short, runs_whole}
use Rattle.walker.proofs.run.Goals as goal

pub returns-in-Err : goal.returns-in-Err
returns-in-Err g c =
    runs_refused 10 c.receive-got.result c.receive-got.new.memory c.receive-got.ensures c.receive-got.auto.memory
    c.opened-opening.ensures (search) c.cause_line.ensures

pub returns-in-Err-answer : goal.returns-in-Err-answer
returns-in-Err-answer g c =
    runs_short 10 c.receive-got.result c.receive-got.new.memory c.receive-got.ensures c.receive-got.auto.memory
    c.opened-opening.ensures (search) c.over_input-m.ensures (search) c.cause_line-in-Err-answer.ensures

pub returns : goal.returns
returns g c =
    runs_whole 10 c.receive-got.result c.receive-got.new.memory c.receive-got.ensures c.receive-got.auto.memory
    c.opened-opening.ensures (search) c.over_input-m.ensures
    c.receive-rest.result c.receive-rest.new.memory (search) c.receive-rest.ensures c.receive-rest.auto.memory c.line_of.ensures
