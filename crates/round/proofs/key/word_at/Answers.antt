-- `round::key::word_at` meets its contract. Byte q of the array is the one at 4 i + q (`from_fn` of bits' `laws.Arrays`), which is `word_at`.
-- Assumes nothing.
use Rattle.bits.proofs.laws.Arrays.{from_fn}
use Rattle.std.proofs.Common.{rules}
use Rattle.round.specs.Key.{word_at}
use Rattle.round.proofs.key.word_at.Goals as goal

pub returns : goal.returns
unfolding word_at
returns c = from_fn _ (λ i y q k. search rules) c.from_fn.ensures.items
