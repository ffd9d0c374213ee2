use Rattle.bits.specs.Lists.{at, tabulate}
use Rattle.bits.specs.Nibbles.{pack}
use Rattle.bits.proofs.laws.Parts.{Parts}
use Rattle.encodings.proofs.bytes.by_nibbles.Given as goal

abbrev pub invariant-loop-i : goal.invariant-loop-i
invariant-loop-i l = Parts 16 16 (λ k. tabulate 16 (λ v. pack (at l.high k) (at l.low v))) l.initial.dst l.dst l.i
