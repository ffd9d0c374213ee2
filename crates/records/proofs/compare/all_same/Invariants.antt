use Rattle.records.proofs.laws.Compare.{Alike}
use Rattle.records.proofs.compare.all_same.Given as goal

abbrev pub invariant-loop-i : goal.invariant-loop-i
invariant-loop-i l = Alike l.a l.b l.alike l.i
