-- `layer_lookups::xor_group` meets its contract. The loop's invariant, `Words` of `laws.Whole`: the words before word t are added to the group's sum. A turn adds
-- word t (`words_more`).
-- Assumes nothing.
use Rattle.layer_lookups.proofs.laws.Whole.{words_none, words_more}
use native.Mathlib.Omega.{arith}
use Rattle.layer_lookups.proofs.xor_group.Goals as goal

pub loop-t-init : goal.loop-t-init
loop-t-init g c =
    words_none (omega arith)

pub loop-t-preserved : goal.loop-t-preserved
loop-t-preserved g c =
    words_more c.loop-t.invariant (search) c.xor_word-last.ensures
