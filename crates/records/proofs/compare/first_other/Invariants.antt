use Rattle.answers.proofs.laws.Search.{Searched}
use Rattle.records.specs.InPlace.{other_in}
use Rattle.records.proofs.compare.first_other.Given as goal

abbrev pub invariant-loop-k : goal.invariant-loop-k
invariant-loop-k l = Searched l.n (other_in l.a l.b) l.k
