-- `layer_record::record_word` meets its contract. The loop's invariant, `Turns` of `laws.Turns`, over turns of two lookups: those of the first i bytes are made and
-- recorded. A turn makes those of one byte (`pair_recorded`, with `turns_more`). That all are made behind the last byte, and that nothing wraps, the checker finds.
-- Assumes nothing.
use mathlib.Core.Path.{refl}
use Rattle.layer_record.proofs.laws.Turns.{turns_none, turns_long, turns_more, pair_recorded}
use native.Mathlib.Omega.{arith}
use Rattle.layer_record.proofs.record_word.Goals as goal

pub loop-i-init : goal.loop-i-init
loop-i-init g c =
    turns_none (omega (arith, c.requires.2))

pub loop-i-preserved : goal.loop-i-preserved
loop-i-preserved g c =
    turns_more c.loop-i.invariant refl c.loop-i-test.true refl refl
    (pair_recorded c.requires.0 c.word_in-word.ensures c.loop-i-test.true refl c.requires.1.room (turns_long c.loop-i.invariant c.told-area) c.record_byte.ensures)
    (search)
