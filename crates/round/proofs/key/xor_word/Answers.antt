-- `round::key::xor_word` meets its contract. Byte q of the array is the xor of the two at q (`from_fn` of bits' `laws.Arrays`), which is `xor_word`.
-- Assumes nothing.
use Rattle.bits.proofs.laws.Arrays.{from_fn}
use Rattle.std.proofs.Common.{rules}
use Rattle.round.specs.Key.{xor_word}
use Rattle.round.proofs.key.xor_word.Goals as goal

pub returns : goal.returns
unfolding xor_word
returns c = from_fn _ (λ i y q k. search rules) c.from_fn.ensures.items
