-- `external::block::decoded`: the two nibbles of b, each taken out of its encoding, packed again; the result is the calls' equations put
-- together. A search in a permutation ends below 16 (`decoded_lt` of `laws.Code`), so nothing overflows.
-- Assumes nothing.
use Rattle.external.proofs.laws.Code.{decoded_lt}
use native.Mathlib.Omega.{arith}
use Rattle.external.proofs.block.decoded.Goals as goal

pub overflow_mul-result : goal.overflow_mul-result
overflow_mul-result c =
    omega (arith, decoded_lt c.place-h.ensures c.encoding_part.ensures c.requires.1 (omega arith))

pub overflow_add-result : goal.overflow_add-result
overflow_add-result c =
    omega (
      arith,
      decoded_lt c.place-h.ensures c.encoding_part.ensures c.requires.1 (omega arith),
      decoded_lt c.place-l.ensures c.encoding_part-2.ensures c.requires.2 (omega arith),
    )
