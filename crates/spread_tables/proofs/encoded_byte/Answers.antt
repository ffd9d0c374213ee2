-- `spread_tables::encoded_byte` looks up the images of the two nibbles of b, at the places that the contract has, as `from` keeps a nibble. Both
-- images are nibbles by the `requires` (`Nibbles`), so that joining them wraps nowhere.
-- Assumes nothing.
use mathlib.Core.Path.{ap₂}
use Prim.Native.Nat.{ℕ, ◌+◌, ◌*◌}
use Rattle.bits.specs.Lists.{at}
use Rattle.bits.specs.Nibbles.{pack}
use native.Mathlib.Omega.{arith}
use Rattle.spread_tables.proofs.encoded_byte.Goals as goal

pub overflow_mul-result : goal.overflow_mul-result
overflow_mul-result c =
    omega (arith, c.requires.1.small (16 * (2 * c.args.k) + c.from.result) (omega arith))

pub overflow_add-result : goal.overflow_add-result
overflow_add-result c =
    let small = c.requires.1.small in
    let k = c.args.k in
    omega (arith, small (16 * (2 * k) + c.from.result) (omega arith), small (16 * (2 * k + 1) + c.from-2.result) (omega arith))

pub returns : goal.returns
returns c =
    let images = at c.args.images.now in
    let k = c.args.k in
    ap₂ (λ (h l : ℕ). pack (images (16 * (2 * k) + h)) (images (16 * (2 * k + 1) + l))) c.from.ensures c.from-2.ensures
