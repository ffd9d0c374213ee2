-- `round::key::rot_word` meets its contract. The result is `RotWord` written out, byte by byte, so the two compute to the same list.
-- Assumes nothing.
use mathlib.Core.Path.{refl}
use Rattle.bits.specs.Lists.{tabulate}
use Rattle.round.specs.Key.{RotWord}
use Rattle.round.proofs.key.rot_word.Goals as goal

pub returns : goal.returns
unfolding RotWord tabulate
returns c = refl
