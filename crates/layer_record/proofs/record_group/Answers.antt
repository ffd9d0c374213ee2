-- `layer_record::record_group` meets its contract. The loop's invariant, `Words` of `laws.Turns`: the words before word t are added to the group's sum, and their lookups
-- recorded. A turn adds word t (`words_more`).
-- Assumes nothing.
use Rattle.layer_record.proofs.laws.Turns.{words_none, words_more}
use Rattle.layer_record.proofs.record_group.Goals as goal

pub loop-t-init : goal.loop-t-init
loop-t-init g c =
    words_none c.requires.2

pub loop-t-preserved : goal.loop-t-preserved
loop-t-preserved g c =
    words_more c.loop-t.invariant (search) c.record_word.ensures (search)
