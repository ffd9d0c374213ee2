-- `aes::turns::cipher` meets its contract. The invariant, `Rounded` of `laws.Turns`: t is the state behind the rounds before round n. It holds behind round key 0
-- (`rounded_none`), a turn makes round n (`rounded_more`), and behind all but the last the lines after the loop are the last round (`rounded_all`). The
-- premises are what the calls ensure.
-- Assumes nothing.
use Rattle.aes.proofs.laws.Turns.{rounded_none, rounded_more, rounded_all}
use Rattle.aes.proofs.turns.cipher.Goals as goal

pub loop-n-init : goal.loop-n-init
loop-n-init c = search rounded_none

pub loop-n-preserved : goal.loop-n-preserved
loop-n-preserved c = search rounded_more

pub returns : goal.returns
returns c = search rounded_all
