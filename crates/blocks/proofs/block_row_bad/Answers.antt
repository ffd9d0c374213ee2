-- `blocks::block_row_bad` meets its contract. The loop's invariant, `Searched` of answers' `laws.Search`: none of the first j blocks is bad, and the search from j
-- on has the answer of the search of all. The number of block j is tested in its place (`block_told` of `laws.Code`): a bad one is found (`searched_here`), another
-- is passed (`searched_next`), and behind the last there is none (`searched_all`).
-- Assumes nothing.
use mathlib.Core.Bool.{not}
use mathlib.Core.Path.{ap}
use native.Mathlib.Omega.{arith}
use Rattle.answers.specs.Search.{is_found}
use Rattle.answers.proofs.laws.Search.{searched_none, searched_here, searched_next, searched_all}
use Rattle.blocks.specs.Blocks.{block_row_bad}
use Rattle.blocks.proofs.laws.Code.{block_told}
use Rattle.blocks.proofs.block_row_bad.Goals as goal

pub loop-j-init : goal.loop-j-init
loop-j-init c = search searched_none

pub returns-then-not-is_invertible : goal.returns-then-not-is_invertible
unfolding block_row_bad
returns-then-not-is_invertible c =
    let told = block_told _ _ _ _ c.block_number.ensures c.is_invertible.ensures in
    ap is_found (searched_here c.loop-j.invariant (omega arith) told (ap not c.if-not-is_invertible.true))

pub loop-j-preserved : goal.loop-j-preserved
loop-j-preserved c =
    let told = block_told _ _ _ _ c.block_number.ensures c.is_invertible.ensures in
    searched_next c.loop-j.invariant (omega arith) told (ap not c.if-not-is_invertible.false)

pub returns : goal.returns
unfolding block_row_bad
returns c =
    ap is_found (searched_all c.loop-j.invariant c.loop-j-test.false)
