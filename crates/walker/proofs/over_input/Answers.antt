-- `walker::over_input` meets its contract. The loop's invariant, `Going` of `laws.Tables`: tables that were read took the first walk to this one, and the memory
-- for a table has kept its length. A turn makes one lookup more (`going_more`), after which the count has grown (`going_on`), or it is refused
-- (`gone_short`); behind the last lookup the set is whole (`gone_whole`). The measure is the number of lookups left.
-- Assumes nothing.
use mathlib.Core.Path.{◌∙◌}
use native.Mathlib.Omega.{arith}
use Rattle.layout.proofs.laws.Ten.{ten, in_set}
use Rattle.walker.proofs.laws.Tables.{going_none, going_more, going_on, gone_short, gone_whole}
use Rattle.walker.proofs.over_input.Goals as goal

pub loop-w-init : goal.loop-w-init
loop-w-init g c =
    going_none 10 c.requires

pub loop-w-smaller : goal.loop-w-smaller
loop-w-smaller g c =
    omega (arith, going_on 10 c.loop-w.invariant c.over_next-m.ensures (search))

pub loop-w-preserved : goal.loop-w-preserved
loop-w-preserved g c =
    going_more 10 c.loop-w.invariant c.over_next-m.ensures (in_set _ (search)) (search)
    (c.over_next-m.auto.table ∙ c.loop-w.invariant.long)

pub returns-in_default : goal.returns-in_default
returns-in_default g c =
    gone_short 10 c.loop-w.invariant c.over_next-m.ensures (in_set _ (search)) c.in_default.is

pub returns : goal.returns
returns g c =
    gone_whole 10 c.loop-w.invariant (omega (arith, ten.all_lookups))
