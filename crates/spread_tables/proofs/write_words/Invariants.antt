use Rattle.bits.specs.Lists.{at}
use Rattle.matrices.specs.ByNibbles.{word_in}
use Rattle.spread_tables.specs.Spread.{encoded_word}
use Rattle.spread_tables.proofs.laws.Words.{Written}
use Rattle.spread_tables.proofs.write_words.Given as goal

abbrev pub invariant-loop-x : goal.invariant-loop-x
invariant-loop-x l = Written 256 l.m (λ i. encoded_word (at l.images) l.m (word_in l.words (at l.values i))) l.dst l.x
