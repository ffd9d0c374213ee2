-- `layer_record::record_xors` meets its contract. The loop's invariant, `Turns` of `laws.Turns`: the lookups of the groups before g are made and recorded. A turn makes
-- those of group g (`turns_more`), and all groups have all XOR lookups (`all_groups`).
-- Assumes nothing.
use mathlib.Core.Path.{refl, sym, ap, ◌∙◌}
use Prim.Native.Nat.{ℕ, ◌*◌}
use native.Mathlib.Nat.{add-zero}
use Rattle.layer_record.specs.Entries.{entry_size}
use Rattle.lookups.proofs.laws.Words.{all_groups}
use Rattle.layer_record.proofs.laws.Turns.{turns_none, turns_more}
use Rattle.layer_record.proofs.laws.Turns.{group_size}
use Rattle.layer_record.proofs.record_xors.Goals as goal

pub loop-g-init : goal.loop-g-init
loop-g-init g c =
    turns_none (c.requires.1 ∙ ap (λ (k : ℕ). k * entry_size) (all_groups c.requires.0.width))

pub loop-g-preserved : goal.loop-g-preserved
loop-g-preserved g c =
    turns_more c.loop-g.invariant (group_size c.requires.0.width) (search) (sym (add-zero _)) refl c.record_group.ensures (search)
