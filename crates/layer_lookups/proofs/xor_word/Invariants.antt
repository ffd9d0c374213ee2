use Rattle.lookups.specs.Layer.{word_first}
use Rattle.layer_lookups.proofs.laws.Turns.{Turns}
use Rattle.layer_lookups.proofs.xor_word.Given as goal

abbrev pub invariant-loop-i : goal.invariant-loop-i
invariant-loop-i g l = Turns g.row.WIDTH l.set l.from (word_first g.row.WIDTH l.g l.t) 2 g.row.WIDTH l.initial.area l.last l.area l.i
