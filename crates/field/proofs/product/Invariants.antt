use Rattle.field.proofs.laws.Summed.{Summed}
use Rattle.field.proofs.product.Given as goal

abbrev pub invariant-loop-done : goal.invariant-loop-done
invariant-loop-done l = Summed l.a l.b l.x l.y l.sum l._done
