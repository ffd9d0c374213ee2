use Rattle.layout.specs.Stages.{lookups}
use Rattle.next_bit.proofs.laws.Search.{Seeking}
use Rattle.next_bit.proofs.search.search.Given as goal

abbrev pub invariant-loop-n : goal.invariant-loop-n
invariant-loop-n l = Seeking l.cipher l.rounds (lookups l.rounds) l.set l.block l.from l.standing l.area l.n
