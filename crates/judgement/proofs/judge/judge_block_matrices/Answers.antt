-- `judgement::judge::judge_block_matrices` meets its contract. The input matrix is tested, and then the output matrix. Each way out has a law of
-- `laws.Judging`, whose premises are what the calls ensure and the tests on the way: `blocks_input` and `blocks_output` where one has no inverse,
-- `blocks_good` where both have one. They have their 2,048 bytes, as the frame is accepted (`block_room` of bundle's `laws.Code`).
-- Assumes nothing.
use Rattle.bundle.proofs.laws.Code.{block_room}
use Rattle.judgement.proofs.laws.Judging.{blocks_input, blocks_output, blocks_good}
use native.Mathlib.Omega.{arith}
use Rattle.judgement.proofs.judge.judge_block_matrices.Goals as goal

pub no_inverse-requires : goal.no_inverse-requires
no_inverse-requires c =
    (omega arith, block_room _ _ 3 c.requires (omega arith) (omega arith) _ c.input_matrix_part.ensures)

pub returns-then-no_inverse : goal.returns-then-no_inverse
returns-then-no_inverse c =
    blocks_input _ _ (search) c.no_inverse.ensures c.if-no_inverse.true

pub no_inverse-requires-2 : goal.no_inverse-requires-2
no_inverse-requires-2 c =
    (omega arith, block_room _ _ 4 c.requires (omega arith) (omega arith) _ c.output_matrix_part.ensures)

pub returns-then-no_inverse-2 : goal.returns-then-no_inverse-2
returns-then-no_inverse-2 c =
    blocks_output _ _ (search) c.no_inverse.ensures (search) (search) c.no_inverse-2.ensures c.if-no_inverse-2.true

pub returns : goal.returns
returns c =
    blocks_good _ _ (search) c.no_inverse.ensures (search) (search) c.no_inverse-2.ensures c.if-no_inverse-2.false
