use Rattle.catalogue.proofs.laws.Unranking.{Unranked}
use Rattle.catalogue.proofs.number_at.Given as goal

abbrev pub invariant-loop-left : goal.invariant-loop-left
invariant-loop-left l = Unranked l.position l.number l.kernel l.rest l.left

abbrev pub decreases-loop-left : goal.decreases-loop-left
decreases-loop-left l = l.left
