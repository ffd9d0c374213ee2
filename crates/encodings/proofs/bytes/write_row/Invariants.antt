use Rattle.bits.specs.Lists.{at}
use Rattle.bits.specs.Nibbles.{pack}
use Rattle.bits.proofs.laws.Filled.{Filled}
use Rattle.encodings.proofs.bytes.write_row.Given as goal

abbrev pub invariant-loop-v : goal.invariant-loop-v
invariant-loop-v l = Filled 16 (λ i. pack l.high (at l.low i)) l.dst l.v
