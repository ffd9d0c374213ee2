use Rattle.bits.specs.Bytes.{byte}
use Rattle.bits.specs.Words.{value}
use Rattle.bits.proofs.laws.Filled.{Filled}
use Rattle.bits.proofs.vector.write.Given as goal

abbrev pub invariant-loop-i : goal.invariant-loop-i
invariant-loop-i l = Filled l.w (λ k. byte l.w k (value l.v)) l.dst l.i
