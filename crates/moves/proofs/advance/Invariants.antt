use Prim.Native.Nat.{◌-◌}
use Rattle.layout.specs.Ciphers.{reads_of}
use Rattle.moves.proofs.laws.Advanced.{Going}
use Rattle.moves.proofs.advance.Given as goal

abbrev pub invariant-loop-n : goal.invariant-loop-n
invariant-loop-n l =
    Going (reads_of l.cipher) l.rounds l.set l.stop l.count l.initial.standing l.initial.area l.standing l.area l.n l.offset

abbrev pub decreases-loop-n : goal.decreases-loop-n
decreases-loop-n l = l.stop - l.n
