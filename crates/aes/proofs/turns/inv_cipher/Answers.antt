-- `aes::turns::inv_cipher` meets its contract. The invariant, `InvRounded` of `laws.Turns`: t is the state behind the rounds nr - 1 down to n. It holds
-- behind the last round key (`inv_rounded_none`), a turn makes round n - 1 (`inv_rounded_more`), and behind round 1 the lines after the loop are the last round
-- (`inv_rounded_all`). The premises are what the calls ensure.
-- Assumes nothing.
use Rattle.aes.proofs.laws.Turns.{inv_rounded_none, inv_rounded_more, inv_rounded_all}
use Rattle.aes.proofs.turns.inv_cipher.Goals as goal

pub loop-n-init : goal.loop-n-init
loop-n-init c = search inv_rounded_none

pub loop-n-preserved : goal.loop-n-preserved
loop-n-preserved c = search inv_rounded_more

pub returns : goal.returns
returns c = search inv_rounded_all
