-- `bits::vector::read` meets its contract. The loop's invariant, `Joined` of `laws.Joined`: the vector is the number of the first j bytes. It
-- starts with no byte (`joined_none`), a turn pushes byte j at the bottom (`joined_more`), and behind the last byte the number is whole
-- (`joined_all`). Before a push there are at most 15 bytes, so the vector is below 2^120 (`joined_room`).
-- Assumes nothing.
use native.Mathlib.Omega.{arith}
use Rattle.bits.proofs.laws.Joined.{joined_none, joined_more, joined_all, joined_room}
use Rattle.bits.proofs.laws.Words.{wide_zero}
use Rattle.bits.proofs.vector.read.Goals as goal

pub loop-j-init : goal.loop-j-init
loop-j-init c = joined_none wide_zero

pub push_byte-v-requires : goal.push_byte-v-requires
push_byte-v-requires c =
    joined_room c.loop-j.invariant 120 (omega arith) (λ j. (c.type_inv.s _).fits)

pub loop-j-preserved : goal.loop-j-preserved
loop-j-preserved c = search joined_more

pub returns : goal.returns
returns c = search joined_all
