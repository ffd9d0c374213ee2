-- `judgement::search::mixing_bad` is the test that `mixing_bad` names: a block has no inverse (`mixing_block` of `laws.Judging`), or else the matrix has none
-- (`mixing_whole`).
-- Assumes nothing.
use Rattle.judgement.proofs.laws.Judging.{mixing_block, mixing_whole}
use Rattle.judgement.proofs.search.mixing_bad.Goals as goal

pub returns-then-some_block_bad : goal.returns-then-some_block_bad
returns-then-some_block_bad c =
    mixing_block _ _ c.some_block_bad.ensures c.if-some_block_bad.true

pub returns : goal.returns
returns c =
    mixing_whole _ _ c.some_block_bad.ensures c.if-some_block_bad.false c.no_inverse.ensures
