-- `streams::line::hex_digits` meets its contract. Element q of the array is the digit of nibble q (`from_fn` of bits' `laws.Arrays`).
-- Assumes nothing.
use Rattle.bits.proofs.laws.Arrays.{from_fn}
use Rattle.std.proofs.Common.{rules}
use Rattle.streams.specs.Lines.{hex_digits}
use Rattle.streams.proofs.line.hex_digits.Goals as goal

pub returns : goal.returns
unfolding hex_digits
returns c = from_fn _ (λ i y q k. search rules) c.from_fn.ensures.items
