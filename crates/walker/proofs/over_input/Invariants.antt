use Prim.Native.Nat.{◌-◌}
use Rattle.layout.specs.Stages.{ten_lookups}
use Rattle.walker.specs.Tables.{table_room}
use Rattle.walker.proofs.laws.Tables.{Going}
use Rattle.walker.proofs.over_input.Given as goal

abbrev pub invariant-loop-w : goal.invariant-loop-w
invariant-loop-w g l = Going 10 table_room l.initial.w l.w l.table

abbrev pub decreases-loop-w : goal.decreases-loop-w
decreases-loop-w g l = ten_lookups - l.w.count
