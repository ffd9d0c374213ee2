use Prim.Native.Nat.{◌-◌}
use Rattle.layout.specs.Stages.{lookups}
use Rattle.records.proofs.laws.Loops.{Comparing}
use Rattle.records.proofs.replay.compare_all.Given as goal

abbrev pub invariant-loop-n : goal.invariant-loop-n
invariant-loop-n l = Comparing l.cipher l.rounds l.set l.block l.recorded l.standing l.area l.own l.n

abbrev pub decreases-loop-n : goal.decreases-loop-n
decreases-loop-n l = lookups l.rounds - l.n
