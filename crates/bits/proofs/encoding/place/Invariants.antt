use Rattle.bits.proofs.laws.Images.{Passed}
use Rattle.bits.proofs.encoding.place.Given as goal

abbrev pub invariant-loop-i : goal.invariant-loop-i
invariant-loop-i l = Passed l.p l.y l.i
