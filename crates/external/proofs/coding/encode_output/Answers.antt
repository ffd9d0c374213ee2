-- `external::coding::encode_output`: `encode_by` with the bundle's output matrix and the encodings from 6,016 on, which is the output coding
-- (`output_encoded` of `laws.Code`). The part of an accepted bundle that holds the matrix has its 2,048 bytes (`output_long`).
-- Assumes nothing.
use Rattle.external.proofs.laws.Code.{output_long, output_encoded}
use Rattle.external.proofs.laws.Coding.{output_first_lem}
use native.Mathlib.Omega.{arith}
use Rattle.external.proofs.coding.encode_output.Goals as goal

pub encode_by-requires : goal.encode_by-requires
encode_by-requires c =
    record { inside = omega (arith, output_first_lem); small = omega arith; matrix = output_long _ _ c.output_matrix_part.ensures }

pub returns-clause-block : goal.returns-clause-block
returns-clause-block c = output_encoded 10 _ c.args.block.now c.args.out.now output_first_lem c.output_matrix_part.ensures c.encode_by.ensures.block
