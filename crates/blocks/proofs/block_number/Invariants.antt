use Rattle.bits.proofs.laws.Joined.{Joined}
use Rattle.catalogue.specs.Catalogue.{side}
use Rattle.blocks.proofs.laws.Code.{nibble_in}
use Rattle.blocks.proofs.block_number.Given as goal

abbrev pub invariant-loop-r : goal.invariant-loop-r
invariant-loop-r l = Joined side side (nibble_in l.w l.p l.i l.j) l.number l.r
