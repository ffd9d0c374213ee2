-- `round::state::add_round_key` meets its contract. Byte i of the array is that of s with a byte of the round key added, which begins at byte 16 n of w
-- (`from_fn` of bits' `laws.Arrays`): `AddRoundKey`, cell by cell (`added` of `laws.Key`). Round key n lies in w, so every index does.
-- Assumes nothing.
use mathlib.Core.Path.{◌∙◌}
use Rattle.bits.proofs.laws.Arrays.{from_fn}
use Rattle.std.proofs.Common.{rules}
use Rattle.round.proofs.laws.Key.{added}
use Rattle.round.proofs.state.add_round_key.Goals as goal

pub returns : goal.returns
returns c = from_fn _ (λ i y q k. search rules) c.from_fn.ensures.items ∙ added _ _ _
