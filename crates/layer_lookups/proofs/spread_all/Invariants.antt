use Rattle.layout.specs.Ciphers.{reads_of}
use Rattle.layout.specs.Stages.{shape_at}
use Rattle.layer_lookups.proofs.laws.Whole.{Spreads}
use Rattle.layer_lookups.proofs.spread_all.Given as goal

abbrev pub invariant-loop-p : goal.invariant-loop-p
invariant-loop-p g l = Spreads (shape_at (reads_of l.cipher) l.stage) l.set l.from l.standing l.initial.area l.area l.p
