-- `spread_tables::write_word` writes the bytes of the encoded word one behind the other into their places of the part. The loop's invariant, `Pasted` of
-- bits: the first k of them are written, at the word's place, and the part is else as it was (`word_none`, `word_more` of `laws.Words`). A turn's byte is
-- the word's own by what `byte` and `encoded_byte` ensure (`at_encoded`). Behind the last the part has the word (`word_all`), and every other byte and the
-- length are as they were: `word_put`, by the statement `PutsWord`.
-- Assumes nothing.
use mathlib.Core.Path.{◌∙◌, sym, ap}
use Prim.Native.Nat.{◌*◌, ◌≤◌}
use Rattle.bits.specs.Lists.{at}
use Rattle.bits.proofs.laws.Bytes.{byte_from_bottom}
use Rattle.bits.proofs.laws.Multiples.{product_le}
use Rattle.spread_tables.specs.Spread.{encoded_byte}
use Rattle.spread_tables.proofs.laws.Words.{fewer, word_none, word_more, word_all, word_put, length_encoded, at_encoded}
use native.Mathlib.Omega.{arith}
use Rattle.spread_tables.proofs.write_word.Goals as goal

pub overflow_mul-a : goal.overflow_mul-a
overflow_mul-a c =
    let inside : c.args.x * c.args.m ≤ 255 * 16 = product_le _ _ 255 16 (omega arith) (omega arith) in
    omega (arith, inside)

pub loop-k-init : goal.loop-k-init
loop-k-init c =
    word_none c.args.x (omega arith) (length_encoded _ _ _)

pub encoded_byte-requires : goal.encoded_byte-requires
encoded_byte-requires c =
    (omega arith, fewer _ _ (32 * c.args.m) (omega arith) c.requires.encoded)

pub loop-k-preserved : goal.loop-k-preserved
loop-k-preserved c =
    let a = c.args in
    let k = c.loop-k.k in
    let own = byte_from_bottom a.m k _ _ c.byte.ensures in
    word_more a.x c.loop-k.invariant c.loop-k-test.true (omega arith)
    (c.encoded_byte.ensures ∙ ap (encoded_byte (at a.images.now) k) own ∙ sym (at_encoded _ _ _ k c.loop-k-test.true))

pub returns : goal.returns
returns c =
    let x = c.args.x in
    let inv = c.loop-k.invariant in
    record { word = word_all x inv c.loop-k-test.false; alone = word_put x inv c.loop-k-test.false (length_encoded _ _ _) }
