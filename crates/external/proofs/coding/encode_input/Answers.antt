-- `external::coding::encode_input`: `encode_by` with the bundle's input matrix and the encodings from 0 on, which is the input coding
-- (`input_encoded` of `laws.Code`). The part of an accepted bundle that holds the matrix has its 2,048 bytes (`input_long`).
-- Assumes nothing.
use Rattle.external.proofs.laws.Code.{input_long, input_encoded}
use native.Mathlib.Omega.{arith}
use Rattle.external.proofs.coding.encode_input.Goals as goal

pub encode_by-requires : goal.encode_by-requires
encode_by-requires c =
    record { inside = omega arith; small = omega arith; matrix = input_long _ _ c.input_matrix_part.ensures }

pub returns-clause-block : goal.returns-clause-block
returns-clause-block c = input_encoded 10 _ c.args.block.now c.args.out.now c.input_matrix_part.ensures c.encode_by.ensures.block
