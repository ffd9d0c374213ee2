use Rattle.bits.specs.Lists.{at}
use Rattle.bits.specs.Vectors.{dot}
use Rattle.bits.proofs.laws.Joined.{Joined}
use Rattle.layers.proofs.words.byte_by_part.Given as goal

abbrev pub invariant-loop-i : goal.invariant-loop-i
invariant-loop-i l = Joined 1 8 (λ j. dot (at l.p j) l.x) l.r l.i
