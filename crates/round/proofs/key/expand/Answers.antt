-- `round::key::expand` meets its contract. The invariant, `Expanded` of `laws.Expansion`: the first i words, the key's among them, are those of the
-- expansion. It holds behind `lay` (`expanded_none`); a turn makes word i of the words i - 1 and i - nk and writes it (`expanded_more`); behind the last
-- turn the whole is the expansion (`expanded_all`). Each word that is read or written lies in w, which has room for all.
-- Assumes nothing.
use Prim.Native.Nat.{◌≤◌}
use Rattle.round.proofs.laws.Expansion.{expanded_none, expanded_more, expanded_all}
use native.Mathlib.Omega.{arith}
use Rattle.round.proofs.key.expand.Goals as goal

pub loop-i-init : goal.loop-i-init
loop-i-init c =
    expanded_none _ _ _ (omega (arith, c.requires, c.lay)) c.requires.0 c.lay.ensures

pub loop-i-preserved : goal.loop-i-preserved
loop-i-preserved c =
    let some_words : 1 ≤ c.args.words = omega (arith, c.requires) in
    expanded_more some_words c.loop-i.invariant c.word_at.ensures c.temp_of-t.ensures c.word_at-in-loop-i.ensures
    c.xor_word-x.ensures (omega arith) c.put_word.ensures

pub returns : goal.returns
returns c =
    expanded_all c.loop-i.invariant (omega arith)

pub overflow_sub-i : goal.overflow_sub-i
overflow_sub-i c =
    let some_words : 1 ≤ c.args.words = omega (arith, c.requires) in
    omega (arith, some_words)

pub word_at-requires : goal.word_at-requires
word_at-requires c =
    let some_words : 1 ≤ c.args.words = omega (arith, c.requires) in
    omega (arith, some_words, c.loop-i.invariant)

pub temp_of-t-requires : goal.temp_of-t-requires
temp_of-t-requires c =
    (omega (arith, c.loop-i.invariant), c.requires.2)

pub word_at-requires-in-loop-i : goal.word_at-requires-in-loop-i
word_at-requires-in-loop-i c =
    let some_words : 1 ≤ c.args.words = omega (arith, c.requires) in
    omega (arith, some_words, c.loop-i.invariant)

pub xor_word-x-requires : goal.xor_word-x-requires
xor_word-x-requires c = tt

pub put_word-requires : goal.put_word-requires
put_word-requires c =
    let some_words : 1 ≤ c.args.words = omega (arith, c.requires) in
    omega (arith, some_words, c.loop-i.invariant)

pub shape_of-w : goal.shape_of-w
shape_of-w c =
    omega (arith, c.loop-i.invariant, c.requires)
