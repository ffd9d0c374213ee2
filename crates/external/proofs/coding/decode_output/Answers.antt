-- `external::coding::decode_output`: `decode_by` with the bundle's output matrix and the encodings from 6,016 on, which is the output coding taken off
-- (`output_decoded` of `laws.Code`). The matrix of an accepted bundle has its 2,048 bytes (`output_long`) and an inverse
-- (`output_has`).
-- Assumes nothing.
use Rattle.external.proofs.laws.Code.{output_long, output_has, output_decoded}
use Rattle.external.proofs.laws.Coding.{output_first_lem}
use native.Mathlib.Omega.{arith}
use Rattle.external.proofs.coding.decode_output.Goals as goal

pub decode_by-requires : goal.decode_by-requires
decode_by-requires c =
    record {
      codes = record { inside = omega (arith, output_first_lem); small = omega arith; matrix = output_long _ _ c.output_matrix_part.ensures };
      inverse = output_has _ _ c.output_matrix_part.ensures (λ i. (c.type_inv.bundle i).fits);
    }

pub returns-clause-block : goal.returns-clause-block
returns-clause-block c = output_decoded 10 _ c.args.block.now c.args.out.now output_first_lem c.output_matrix_part.ensures c.decode_by.ensures.block
