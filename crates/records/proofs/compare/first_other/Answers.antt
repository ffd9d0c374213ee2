-- `records::compare::first_other` meets its contract. Where all bytes are the same no entry differs (`all_alike` of `laws.Compare`). Else the loop's invariant, `Searched` of
-- answers' `laws.Search`: the first k entries are the same. A turn compares one more (`other_cut`): where it is another it is the first that differs (`searched_here`), else
-- it is passed (`searched_next`); behind the last none differs (`searched_all`).
-- Assumes nothing.
use mathlib.Core.Bool.{not}
use mathlib.Core.Path.{ap}
use Rattle.answers.proofs.laws.Search.{searched_none, searched_here, searched_next, searched_all}
use Rattle.records.proofs.laws.Compare.{all_alike, other_cut}
use Rattle.records.proofs.compare.first_other.Goals as goal

pub returns-then-all_same : goal.returns-then-all_same
returns-then-all_same c =
    all_alike c.args.a.now c.args.b.now _ c.all_same.ensures c.if-all_same.true

pub loop-k-init : goal.loop-k-init
loop-k-init c = searched_none _ _

pub returns-then-not-all_same : goal.returns-then-not-all_same
returns-then-not-all_same c =
    searched_here c.loop-k.invariant c.loop-k-test.true (other_cut _ _ _ c.all_same-in-loop-k.ensures) (ap not c.if-not-all_same.true)

pub loop-k-preserved : goal.loop-k-preserved
loop-k-preserved c =
    searched_next c.loop-k.invariant c.loop-k-test.true (other_cut _ _ _ c.all_same-in-loop-k.ensures) (ap not c.if-not-all_same.false)

pub returns : goal.returns
returns c = searched_all c.loop-k.invariant (search)
