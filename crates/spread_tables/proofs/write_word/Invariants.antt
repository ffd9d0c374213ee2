use Prim.Native.Nat.{◌*◌}
use Rattle.bits.specs.Lists.{at}
use Rattle.bits.specs.Words.{value}
use Rattle.bits.proofs.laws.Pasted.{Pasted}
use Rattle.spread_tables.specs.Spread.{encoded_word}
use Rattle.spread_tables.proofs.write_word.Given as goal

abbrev pub invariant-loop-k : goal.invariant-loop-k
invariant-loop-k l = Pasted l.initial.dst (encoded_word (at l.images) l.m (value l.v)) (l.x * l.m) 0 l.m l.dst l.k
