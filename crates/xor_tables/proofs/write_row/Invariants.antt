use Prim.Native.Nat.{◌+◌, ◌*◌}
use lib.Bits.{bit_xor}
use Rattle.bits.specs.Lists.{at}
use Rattle.bits.specs.Nibbles.{pack}
use Rattle.bits.proofs.laws.Filled.{Filled}
use Rattle.xor_tables.proofs.write_row.Given as goal

abbrev pub invariant-loop-k : goal.invariant-loop-k
invariant-loop-k l =
    Filled 8 (λ i. pack (at l.res (bit_xor l.a (at l.added (2 * i)))) (at l.res (bit_xor l.a (at l.added (2 * i + 1))))) l.dst l.k
