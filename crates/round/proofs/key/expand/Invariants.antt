use Rattle.round.proofs.laws.Expansion.{Expanded}
use Rattle.round.proofs.key.expand.Given as goal

abbrev pub invariant-loop-i : goal.invariant-loop-i
invariant-loop-i l = Expanded l.words l.key l.w l.i
