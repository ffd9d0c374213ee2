use Prim.Native.Nat.{◌-◌}
use lib.ListN.{length}
use Rattle.streams.proofs.laws.Receiving.{Receiving}
use Rattle.streams.proofs.stream.receive.Given as goal

abbrev pub invariant-loop-done : goal.invariant-loop-done
invariant-loop-done g l = Receiving l.initial.memory l.memory l.done

abbrev pub decreases-loop-done : goal.decreases-loop-done
decreases-loop-done g l = length l.memory - l.done
