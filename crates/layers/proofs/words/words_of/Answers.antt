-- `layers::words::words_of` reads the number of four bytes for each row: word i of the array is row i of the matrix that the bytes write (`from_fn` of
-- bits' `laws.Arrays`), which is that matrix, by its definition.
-- Assumes nothing.
use Rattle.bits.proofs.laws.Arrays.{from_fn}
use Rattle.std.proofs.Common.{rules}
use Rattle.bits.specs.Bytes.{number_at}
use Rattle.matrices.specs.Matrices.{matrix_of}
use Rattle.layers.proofs.words.words_of.Goals as goal

pub returns : goal.returns
unfolding matrix_of number_at
returns c = from_fn _ (λ i y q k. search rules) c.from_fn.ensures.items
