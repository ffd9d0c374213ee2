-- `spread_tables::write_words` writes the words of 256 bytes, each straight to its place. The loop's invariant, `Written` of `laws.Words`: the words before word
-- x are written. A turn has the writer put word x to its place, and what it says of every other byte of the part, `WordPut`, keeps the words before
-- (`written_more`). Behind the last word the part is all words (`written_all`).
-- Assumes nothing.
use mathlib.Core.Path.{ap}
use Rattle.bits.specs.Lists.{at}
use Rattle.spread_tables.specs.Spread.{encoded_word}
use Rattle.spread_tables.proofs.laws.Words.{written_none, word_room, written_more, written_all, length_encoded}
use native.Mathlib.Omega.{arith}
use Rattle.spread_tables.proofs.write_words.Goals as goal

pub loop-x-init : goal.loop-x-init
loop-x-init c = written_none (omega arith)

pub write_word-requires : goal.write_word-requires
write_word-requires c =
    let room = word_room c.loop-x.invariant in
    let place = c.loop-x-test.true in
    record { width = c.requires.width; encoded = c.requires.encoded; word = place; room = room _ place }

pub shape_of-dst : goal.shape_of-dst
shape_of-dst c =
    omega (arith, c.loop-x.invariant.long, c.requires.room)

pub loop-x-preserved : goal.loop-x-preserved
loop-x-preserved c =
    let a = c.args in
    written_more (λ i h. length_encoded _ _ _) c.loop-x.invariant c.loop-x-test.true (omega arith)
    (ap (encoded_word (at a.images.now) a.m) c.word_of.ensures) c.write_word.ensures.alone

pub returns : goal.returns
returns c =
    written_all (λ i h. length_encoded _ _ _) c.loop-x.invariant c.loop-x-test.false
