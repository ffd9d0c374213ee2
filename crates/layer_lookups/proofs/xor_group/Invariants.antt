use Rattle.layer_lookups.proofs.laws.Whole.{Words}
use Rattle.layer_lookups.proofs.xor_group.Given as goal

abbrev pub invariant-loop-t : goal.invariant-loop-t
invariant-loop-t g l = Words g.row.WIDTH l.set l.from l.g l.initial.area l.last l.area l.t
