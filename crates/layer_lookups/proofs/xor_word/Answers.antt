-- `layer_lookups::xor_word` meets its contract. The loop's invariant, `Turns` of `laws.Turns`: the two XOR lookups of each byte before i are made. A turn makes
-- those of byte i, at the places that `word_in` ensures, over their tables, two parts of the set one behind the other (`pair_made`). Behind the last byte all
-- of the word are made, and no sum wraps, since the tables end within the set: that the checker finds.
-- Assumes nothing.
use mathlib.Core.Path.{refl}
use Rattle.layer_lookups.proofs.laws.Turns.{turns_none, turns_more, turns_long, pair_made}
use native.Mathlib.Omega.{arith}
use Rattle.layer_lookups.proofs.xor_word.Goals as goal

pub loop-i-init : goal.loop-i-init
loop-i-init g c =
    turns_none (omega arith)

pub loop-i-preserved : goal.loop-i-preserved
loop-i-preserved g c =
    turns_more c.loop-i.invariant (omega arith) (search) refl
    (pair_made c.requires.0 c.word_in-word.ensures (search) (turns_long c.loop-i.invariant c.told-area) c.requires.1 refl c.xor_byte-last.ensures)
