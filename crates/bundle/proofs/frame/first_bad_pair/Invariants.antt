use Rattle.bundle.specs.Format.{pair_bad}
use Rattle.answers.proofs.laws.Search.{Searched}
use Rattle.bundle.proofs.frame.first_bad_pair.Given as goal

abbrev pub invariant-loop-i : goal.invariant-loop-i
invariant-loop-i l = Searched 5 (pair_bad l.rounds l.bundle) l.i
