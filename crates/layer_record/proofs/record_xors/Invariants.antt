use Rattle.lookups.specs.Layer.{group_xors}
use Rattle.layer_record.proofs.laws.Turns.{Turns}
use Rattle.layer_record.proofs.record_xors.Given as goal

abbrev pub invariant-loop-g : goal.invariant-loop-g
invariant-loop-g g l = Turns g.row.WIDTH l.set l.from 0 l.groups (group_xors g.row.WIDTH) l.initial.area l.area l.recorded l.g
