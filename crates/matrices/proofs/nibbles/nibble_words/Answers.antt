-- `matrices::nibbles::nibble_words` stores the words of the 32 bytes with one nibble, a row each. The loop's invariant,
-- `Stored`: the first r rows are stored. A turn stores what `nibble_word` adds up, which is the word of byte r:
-- `nibble_combined` of `laws.ByNibbles`.
-- Assumes nothing.
use mathlib.Core.Path.{refl}
use Rattle.matrices.proofs.laws.Rows.{stored_none, stored_more, stored_all}
use Rattle.matrices.proofs.laws.ByNibbles.{nibble_combined}
use native.Mathlib.Omega.{arith}
use Rattle.matrices.proofs.nibbles.nibble_words.Goals as goal

pub loop-r-init : goal.loop-r-init
loop-r-init c = stored_none

pub set_row-requires : goal.set_row-requires
set_row-requires c =
    omega (arith, c.loop-r.invariant.long)

pub shape_of-dst : goal.shape_of-dst
shape_of-dst c =
    c.loop-r.invariant.long

pub loop-r-preserved : goal.loop-r-preserved
loop-r-preserved c =
    stored_more c.loop-r.invariant c.loop-r-test.true c.set_row.ensures
    (nibble_combined _ c.loop-r.r _ _ _ c.loop-r-test.true refl refl c.nibble_word.ensures)

pub returns : goal.returns
returns c = search stored_all
