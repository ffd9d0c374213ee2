use Rattle.layout.specs.Ciphers.{reads_of}
use Rattle.layout.specs.Stages.{shape_at}
use Rattle.layer_record.proofs.laws.Whole.{Spreads}
use Rattle.layer_record.proofs.record_spreads.Given as goal

abbrev pub invariant-loop-p : goal.invariant-loop-p
invariant-loop-p g l =
    Spreads (shape_at (reads_of l.cipher) l.stage) l.set l.from l.standing l.initial.area l.initial.recorded l.area l.recorded l.p
