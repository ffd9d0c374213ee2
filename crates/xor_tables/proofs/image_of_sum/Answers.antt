-- `xor_tables::image_of_sum` reads the image at the sum of two nibbles, which is a nibble (`xor_lt`), so within the 16 images.
-- Assumes nothing.
use lib.Bits.{xor_lt}
use native.Mathlib.Omega.{arith}
use Rattle.xor_tables.proofs.image_of_sum.Goals as goal

pub bounds-res-from : goal.bounds-res-from
bounds-res-from c =
    let a = c.args in
    omega (arith, xor_lt 4 a.a a.b (omega arith) (omega arith))

pub returns : goal.returns
returns c = cc
