use Rattle.lookups.specs.Layer.{word_first}
use Rattle.layer_record.proofs.laws.Turns.{Turns}
use Rattle.layer_record.proofs.record_word.Given as goal

abbrev pub invariant-loop-i : goal.invariant-loop-i
invariant-loop-i g l = Turns g.row.WIDTH l.set l.from (word_first g.row.WIDTH l.g l.t) g.row.WIDTH 2 l.initial.area l.area l.recorded l.i
