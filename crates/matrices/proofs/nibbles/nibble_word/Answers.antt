-- `matrices::nibbles::nibble_word` adds up the rows at the bits that v has. The loop's invariant, `Summed` of bits: w
-- is the sum of the first i products of a bit and its row. A turn adds the next by what the three calls ensure
-- (`summed_more`); behind the last w is the word (`summed_all`).
-- Assumes nothing.
use mathlib.Core.Path.{refl}
use Rattle.bits.specs.Words.{wide}
use Rattle.bits.proofs.laws.Summed.{summed_none, summed_more, summed_all}
use native.Mathlib.Nat.{mod-eq_of_lt}
use Rattle.matrices.proofs.nibbles.nibble_word.Goals as goal

pub loop-i-init : goal.loop-i-init
unfolding wide
loop-i-init c = summed_none refl

pub loop-i-preserved : goal.loop-i-preserved
loop-i-preserved c =
    let lowest = mod-eq_of_lt c.bit_of.ensures.1 in
    summed_more c.loop-i.invariant c.loop-i-test.true c.add-w.ensures (cc)

pub returns : goal.returns
returns c = search summed_all
