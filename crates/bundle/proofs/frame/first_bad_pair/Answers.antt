-- `bundle::frame::first_bad_pair` meets its contract. The loop's invariant, `Searched` of answers' `laws.Search`: none of the first i pairs is bad, and
-- the search from i on has the answer of the search of all five. A bad pair is the first (`searched_here`), a good one is passed (`searched_next`), and
-- behind the fifth there is none (`searched_all`).
-- Assumes nothing.
use Rattle.answers.proofs.laws.Search.{searched_none, searched_here, searched_next, searched_all}
use Rattle.bundle.proofs.frame.first_bad_pair.Goals as goal

pub loop-i-init : goal.loop-i-init
loop-i-init c = search searched_none

pub returns-then-pair_bad : goal.returns-then-pair_bad
returns-then-pair_bad c = search searched_here

pub loop-i-preserved : goal.loop-i-preserved
loop-i-preserved c = search searched_next

pub returns : goal.returns
returns c = search searched_all
