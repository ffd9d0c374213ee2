-- `judgement::search::first_bad_encoding` meets its contract. The outer loop's invariant, `Searched` of answers' `laws.Search`: each of the first n
-- lists is a permutation, and the search from n on has the answer of the search of all. The inner loop's, `Imaged` of `laws.Encodings`: the first i
-- images of list n differ, and `met` marks them. An image whose mark is set makes list n bad (`imaged_here`), and so the first (`searched_here`); another's is set
-- (`imaged_next`). Behind the last image the list is good (`imaged_all`) and is passed (`searched_next`), and behind the last list there is no bad one
-- (`searched_all`).
-- Assumes nothing.
use mathlib.Core.Path.{refl}
use Rattle.answers.proofs.laws.Search.{searched_none, searched_here, searched_next, searched_all}
use Rattle.judgement.proofs.laws.Encodings.{imaged_none, imaged_here, imaged_next, imaged_all}
use Rattle.judgement.proofs.search.first_bad_encoding.Goals as goal

pub loop-n-init : goal.loop-n-init
loop-n-init c = search searched_none

pub loop-i-init : goal.loop-i-init
loop-i-init c = search imaged_none

pub loop-i-preserved : goal.loop-i-preserved
loop-i-preserved c =
    imaged_next c.loop-i.invariant c.loop-i-test.true c.image.ensures c.mark-here.ensures c.if-met-here-ne0.false

pub loop-n-preserved : goal.loop-n-preserved
loop-n-preserved c =
    searched_next c.loop-n.invariant c.loop-n-test.true (imaged_all c.loop-i.invariant c.loop-i-test.false) refl

pub returns-after-loop-n : goal.returns-after-loop-n
returns-after-loop-n c = search searched_all

pub returns-then-met-here-ne0 : goal.returns-then-met-here-ne0
returns-then-met-here-ne0 c =
    let bad = imaged_here c.loop-i.invariant c.loop-i-test.true c.image.ensures c.mark-here.ensures c.if-met-here-ne0.true in
    searched_here c.loop-n.invariant c.loop-n-test.true bad refl
