use Rattle.bits.specs.Lists.{at}
use Rattle.bits.specs.Vectors.{dot}
use Rattle.bits.proofs.laws.Joined.{Joined}
use Rattle.layers.proofs.words.by_words.Given as goal

abbrev pub invariant-loop-i : goal.invariant-loop-i
invariant-loop-i l = Joined 1 32 (λ j. dot (at l.rows j) l.v) l.r l.i
