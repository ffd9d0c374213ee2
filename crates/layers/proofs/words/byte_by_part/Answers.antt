-- `layers::words::byte_by_part` pushes the parities of the 8 bytes of p with x, one a turn. The loop's invariant, `Joined` of bits: r is made of
-- the first i of these parities. A turn pushes one more (`joined_more`), for which a word has room, since 8 bits or fewer stand in it (`joined_room`);
-- behind the eighth r is the product with the matrix that the bytes write (`part_multiplied` of `laws.Words`), and a byte.
-- Assumes nothing.
use mathlib.Core.Path.{refl}
use Rattle.bits.proofs.laws.Joined.{joined_none, joined_more, joined_room}
use Rattle.bits.proofs.laws.Vectors.{dot_lt}
use Rattle.layers.proofs.laws.Words.{part_multiplied}
use native.Mathlib.Omega.{arith}
use Rattle.layers.proofs.words.byte_by_part.Goals as goal

pub loop-i-init : goal.loop-i-init
loop-i-init c = joined_none refl

pub push_parity-r-requires : goal.push_parity-r-requires
push_parity-r-requires c =
    joined_room c.loop-i.invariant 63 (omega arith) (λ j. dot_lt _ _)

pub loop-i-preserved : goal.loop-i-preserved
loop-i-preserved c = search joined_more

pub overflow_cast-result : goal.overflow_cast-result
overflow_cast-result c =
    omega (arith, joined_room c.loop-i.invariant 8 (omega arith) (λ j. dot_lt _ _))

pub returns : goal.returns
returns c = search part_multiplied
