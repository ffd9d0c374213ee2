-- `external::coding::decode_input`: `decode_by` with the bundle's input matrix and the encodings from 0 on, which is the input coding taken off
-- (`input_decoded` of `laws.Code`). The matrix of an accepted bundle has its 2,048 bytes (`input_long`) and an inverse
-- (`input_has`).
-- Assumes nothing.
use Rattle.external.proofs.laws.Code.{input_long, input_has, input_decoded}
use native.Mathlib.Omega.{arith}
use Rattle.external.proofs.coding.decode_input.Goals as goal

pub decode_by-requires : goal.decode_by-requires
decode_by-requires c =
    record {
      codes = record { inside = omega arith; small = omega arith; matrix = input_long _ _ c.input_matrix_part.ensures };
      inverse = input_has _ _ c.input_matrix_part.ensures (λ i. (c.type_inv.bundle i).fits);
    }

pub returns-clause-block : goal.returns-clause-block
returns-clause-block c = input_decoded 10 _ c.args.block.now c.args.out.now c.input_matrix_part.ensures c.decode_by.ensures.block
