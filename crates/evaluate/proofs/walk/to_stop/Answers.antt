-- `evaluate::walk::to_stop` meets its contract. Each way out has a law of `laws.Calls`, whose premises are the tests on the way and what `refused` ensures: a set
-- of another length (`wrong_set`), a stop behind the last lookup (`stop_above`), a stop before the count (`stop_below`); and behind `advance`, which makes the
-- lookups up to the stop, the walk keeps the cipher, as `changed` ensures, and the move is done (`stop_done`). They are over the sizes of a set.
-- Assumes nothing.
use mathlib.Core.Path.{refl}
use Rattle.layout.proofs.laws.Rounds.{sizes_of}
use Rattle.evaluate.proofs.laws.Calls.{wrong_set, stop_above, stop_below, stop_done}
use Rattle.evaluate.proofs.walk.to_stop.Goals as goal

pub returns-then-set-set_bytes : goal.returns-then-set-set_bytes
returns-then-set-set_bytes c =
    wrong_set (sizes_of refl c.set_bytes.ensures) _ _ _ _ c.refused.ensures (search)

pub returns-then-stop-lookups_in : goal.returns-then-stop-lookups_in
returns-then-stop-lookups_in c =
    stop_above (sizes_of c.lookups_in.ensures c.set_bytes.ensures) _ _ _ _ (search) c.refused-then-stop-lookups_in.ensures (search)

pub returns-then-stop-walk : goal.returns-then-stop-walk
returns-then-stop-walk c =
    stop_below (sizes_of c.lookups_in.ensures c.set_bytes.ensures) _ _ _ _ (search) c.refused-then-stop-walk.ensures (search) (search)

pub returns : goal.returns
returns c =
    stop_done (sizes_of c.lookups_in.ensures c.set_bytes.ensures) _ _ _ _ c.if-set-set_bytes.false refl c.if-stop-lookups_in.false c.if-stop-walk.false
    c.advance-offset.ensures c.changed.ensures refl
