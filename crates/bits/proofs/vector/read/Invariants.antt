use Prim.Native.Nat.{◌+◌}
use Rattle.bits.specs.Lists.{at}
use Rattle.bits.specs.Words.{value}
use Rattle.bits.proofs.laws.Joined.{Joined}
use Rattle.bits.proofs.vector.read.Given as goal

abbrev pub invariant-loop-j : goal.invariant-loop-j
invariant-loop-j l = Joined 8 l.w (λ k. at l.s (l.a + k)) (value l.v) l.j
