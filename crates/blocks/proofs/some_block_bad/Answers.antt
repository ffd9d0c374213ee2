-- `blocks::some_block_bad` meets its contract. The loop's invariant, `Searched` of answers' `laws.Search`: none of the first i rows of blocks is bad, and the search
-- from i on has the answer of the search of all. A bad row is found (`searched_here`), another is passed (`searched_next`), and behind the last there is none
-- (`searched_all`).
-- Assumes nothing.
use mathlib.Core.Path.{ap}
use Rattle.answers.specs.Search.{is_found}
use Rattle.answers.proofs.laws.Search.{searched_none, searched_here, searched_next, searched_all}
use Rattle.blocks.specs.Blocks.{some_block_bad}
use Rattle.blocks.proofs.some_block_bad.Goals as goal

pub loop-i-init : goal.loop-i-init
loop-i-init c = search searched_none

pub returns-then-block_row_bad : goal.returns-then-block_row_bad
unfolding some_block_bad
returns-then-block_row_bad c =
    ap is_found (searched_here c.loop-i.invariant c.loop-i-test.true c.block_row_bad.ensures c.if-block_row_bad.true)

pub loop-i-preserved : goal.loop-i-preserved
loop-i-preserved c =
    searched_next c.loop-i.invariant c.loop-i-test.true c.block_row_bad.ensures c.if-block_row_bad.false

pub returns : goal.returns
unfolding some_block_bad
returns c =
    ap is_found (searched_all c.loop-i.invariant c.loop-i-test.false)
