-- `evaluate::walk::start` meets its contract. A block of another length is refused, with a walk of zeros, as `begun` makes it (`start_refused` of `laws.Calls`). Else
-- the standing bytes are the block, as `load` ensures, the walk keeps the cipher, as `begun` ensures, and the start is made (`start_done`).
-- Assumes nothing.
use Rattle.evaluate.proofs.laws.Calls.{start_refused, start_done}
use Rattle.evaluate.proofs.walk.start.Goals as goal

pub returns-then-block-ne16 : goal.returns-then-block-ne16
returns-then-block-ne16 c =
    start_refused _ _ _ (search) c.begun.ensures

pub returns : goal.returns
returns c =
    start_done _ _ _ _ (search) c.load.ensures c.begun-2.ensures
