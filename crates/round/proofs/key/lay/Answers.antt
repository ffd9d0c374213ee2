-- `round::key::lay` meets its contract. The invariant, `Filled` of bits: the first i bytes of w are the key's. A turn copies one more (`filled_more`), and
-- behind the last the key stands in front (`laid` of `laws.Expansion`).
-- Assumes nothing.
use mathlib.Core.Path.{refl}
use Rattle.bits.proofs.laws.Filled.{filled_none, filled_more}
use Rattle.round.proofs.laws.Expansion.{laid}
use native.Mathlib.Omega.{arith}
use Rattle.round.proofs.key.lay.Goals as goal

pub loop-i-init : goal.loop-i-init
loop-i-init c = search filled_none

pub loop-i-preserved : goal.loop-i-preserved
loop-i-preserved c =
    filled_more c.loop-i.invariant (omega arith) refl

pub returns : goal.returns
returns c =
    laid c.loop-i.invariant (omega arith)
