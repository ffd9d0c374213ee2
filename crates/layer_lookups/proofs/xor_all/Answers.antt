-- `layer_lookups::xor_all` meets its contract. The loop's invariant, `Turns` of `laws.Turns`: the lookups of the groups before g are made. A turn makes those of
-- group g (`turns_more`); behind the last group all are made (`turns_all`, `all_groups`).
-- Assumes nothing.
use mathlib.Core.Path.{sym}
use native.Mathlib.Nat.{add-zero}
use Rattle.lookups.proofs.laws.Words.{some_xors, all_groups}
use Rattle.layer_lookups.proofs.laws.Turns.{turns_none, turns_more, turns_all}
use native.Mathlib.Omega.{arith}
use Rattle.layer_lookups.proofs.xor_all.Goals as goal

pub loop-g-init : goal.loop-g-init
loop-g-init g c =
    turns_none (omega arith)

pub loop-g-preserved : goal.loop-g-preserved
loop-g-preserved g c =
    turns_more c.loop-g.invariant (some_xors c.requires.0) (search) (sym (add-zero _)) c.xor_group-last.ensures

pub returns : goal.returns
returns g c =
    turns_all c.loop-g.invariant (search) (all_groups c.requires.0)
