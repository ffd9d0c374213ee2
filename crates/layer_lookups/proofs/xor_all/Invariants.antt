use Rattle.lookups.specs.Layer.{group_xors}
use Rattle.layer_lookups.proofs.laws.Turns.{Turns}
use Rattle.layer_lookups.proofs.xor_all.Given as goal

abbrev pub invariant-loop-g : goal.invariant-loop-g
invariant-loop-g g l = Turns g.row.WIDTH l.set l.from 0 (group_xors g.row.WIDTH) l.groups l.initial.area l.last l.area l.g
