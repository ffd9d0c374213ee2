-- `judgement::search::first_bad_mixing` meets its contract. The loop's invariant, `Searched` of answers' `laws.Search`: none of the first k matrices is
-- bad, and the search from k on has the answer of the search of all. What the code cuts out is matrix k (`mixing_cut` of `laws.Judging`): a bad one is
-- the first (`searched_here`), another is passed (`searched_next`), and behind the last there is none (`searched_all`). Matrix k ends within the
-- section, so no product and no sum wraps; and the number of a matrix has 32 bits.
-- Assumes nothing.
use Rattle.answers.proofs.laws.Search.{searched_none, searched_here, searched_next, searched_all}
use Rattle.judgement.proofs.laws.Judging.{mixing_cut}
use Rattle.judgement.proofs.search.first_bad_mixing.Goals as goal

pub loop-k-init : goal.loop-k-init
loop-k-init c = search searched_none

pub returns-then-mixing_bad : goal.returns-then-mixing_bad
returns-then-mixing_bad c =
    searched_here c.loop-k.invariant c.loop-k-test.true (mixing_cut _ _ _ _ c.mixing_bad.ensures) c.if-mixing_bad.true

pub loop-k-preserved : goal.loop-k-preserved
loop-k-preserved c =
    searched_next c.loop-k.invariant c.loop-k-test.true (mixing_cut _ _ _ _ c.mixing_bad.ensures) c.if-mixing_bad.false

pub returns : goal.returns
returns c = search searched_all
