-- `spread_tables::write` has the words of the bytes with one nibble put into a local array, and the table made of them. As the word of a byte is linear
-- in it, the sums of two rows are the words of the bytes: `table_written` of `laws.Words`, from what the calls ensure and from the values being bytes. The width
-- that a branch names is m (`WordWidth`).
-- Assumes nothing.
use Prim.Native.Nat.{◌*◌}
use Rattle.spread_tables.specs.Words.{block_word, round_word}
use Rattle.spread_tables.proofs.laws.Words.{width_else, fewer, table_written}
use native.Mathlib.Omega.{arith}
use Rattle.spread_tables.proofs.write.Goals as goal

pub write_words-requires : goal.write_words-requires
write_words-requires c =
    let images = fewer _ (32 * block_word) (32 * c.args.m) (omega arith) c.requires.encoded in
    record { valued = omega arith; rows = omega arith; width = omega arith; encoded = images; room = omega arith }

pub returns-then-m-eq-BLOCK_WORD : goal.returns-then-m-eq-BLOCK_WORD
returns-then-m-eq-BLOCK_WORD c =
    table_written _ c.args.images.now _ _ c.args.values.now _ _ _ (omega arith) c.nibble_words.ensures
    (λ i. (c.type_inv.values i).fits) c.if-m-eq-BLOCK_WORD.true c.write_words.ensures

pub write_words-requires-else-m-eq-BLOCK_WORD : goal.write_words-requires-else-m-eq-BLOCK_WORD
write_words-requires-else-m-eq-BLOCK_WORD c =
    let narrow = width_else c.args.m c.requires.width c.if-m-eq-BLOCK_WORD.false in
    let images = fewer _ (32 * round_word) (32 * c.args.m) (omega arith) c.requires.encoded in
    record { valued = omega arith; rows = omega arith; width = omega arith; encoded = images; room = omega arith }

pub returns-else-m-eq-BLOCK_WORD : goal.returns-else-m-eq-BLOCK_WORD
returns-else-m-eq-BLOCK_WORD c =
    table_written _ c.args.images.now _ _ c.args.values.now _ _ _ (omega arith) c.nibble_words.ensures
    (λ i. (c.type_inv.values i).fits) (width_else _ c.requires.width c.if-m-eq-BLOCK_WORD.false) c.write_words-else-m-eq-BLOCK_WORD.ensures
