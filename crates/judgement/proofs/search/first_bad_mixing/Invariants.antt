use Rattle.answers.proofs.laws.Search.{Searched}
use Rattle.judgement.proofs.laws.Judging.{bad_mixing_in}
use Rattle.judgement.proofs.search.first_bad_mixing.Given as goal

abbrev pub invariant-loop-k : goal.invariant-loop-k
invariant-loop-k l = Searched l.count (bad_mixing_in l.w l.size l.s) l.k
