use lib.Bits.{bit_xor}
use Rattle.bits.specs.Lists.{at}
use Rattle.bits.specs.Nibbles.{packed}
use Rattle.bits.proofs.laws.Parts.{Parts}
use Rattle.xor_tables.proofs.write_entries.Given as goal

abbrev pub invariant-loop-i : goal.invariant-loop-i
invariant-loop-i l = Parts 16 8 (λ k. packed 8 (λ j. at l.res (bit_xor (at l.sum k) (at l.added j)))) l.initial.dst l.dst l.i
