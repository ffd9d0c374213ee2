use Rattle.layer_record.proofs.laws.Turns.{Words}
use Rattle.layer_record.proofs.record_group.Given as goal

abbrev pub invariant-loop-t : goal.invariant-loop-t
invariant-loop-t g l = Words g.row.WIDTH l.set l.from l.g l.initial.area l.area l.recorded l.t
