-- `encodings::lists::images` fills the 16 places from the front with the nibbles of p (`Filled` of bits), the two of byte i in turn i: `two_more` of
-- `laws.Entries`. Filled, the places are the images.
-- Assumes nothing.
use lib.ListN.{length-set}
use Rattle.bits.specs.Encodings.{images_of}
use Rattle.bits.proofs.laws.Filled.{filled_none, filled_all}
use Rattle.encodings.proofs.laws.Lists.{two_more}
use native.Mathlib.Omega.{arith}
use Rattle.encodings.proofs.lists.images.Goals as goal

pub loop-i-init : goal.loop-i-init
loop-i-init c = filled_none 16 _ _ (omega arith)

pub bounds-dst-i-in-loop-i : goal.bounds-dst-i-in-loop-i
bounds-dst-i-in-loop-i c = simp length-set (omega arith)

pub loop-i-preserved : goal.loop-i-preserved
loop-i-preserved c =
    two_more _ c.loop-i.invariant c.loop-i-test.true

pub returns : goal.returns
unfolding images_of
returns c =
    filled_all c.loop-i.invariant (omega arith)
