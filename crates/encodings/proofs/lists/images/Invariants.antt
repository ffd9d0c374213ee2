use Prim.Native.Nat.{◌*◌}
use Rattle.bits.specs.Nibbles.{nibble}
use Rattle.bits.proofs.laws.Filled.{Filled}
use Rattle.encodings.proofs.lists.images.Given as goal

abbrev pub invariant-loop-i : goal.invariant-loop-i
invariant-loop-i l = Filled 16 (nibble l.p) l.dst (2 * l.i)
