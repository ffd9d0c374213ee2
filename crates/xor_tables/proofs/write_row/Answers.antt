-- `xor_tables::write_row` fills the 8 bytes of a row from the front, byte k with the entries 2 k and 2 k + 1 (`Filled` of bits). Both entries
-- are images of sums of two nibbles, so elements of `result` and nibbles (`sum_image` of `laws.Entries`): packing them wraps nowhere, and the bytes are the row, packed.
-- Assumes nothing.
use mathlib.Core.Path.{ap₂}
use Prim.Native.Nat.{◌+◌, ◌*◌, ◌<◌}
use Rattle.bits.specs.Nibbles.{pack, packed}
use Rattle.bits.proofs.laws.Filled.{filled_none, filled_more, filled_all}
use Rattle.xor_tables.proofs.laws.Xors.{sum_image}
use native.Mathlib.Omega.{arith}
use Rattle.xor_tables.proofs.write_row.Goals as goal

pub loop-k-init : goal.loop-k-init
loop-k-init c = filled_none 8 _ _ (omega arith)

pub image_of_sum-high-requires : goal.image_of_sum-high-requires
image_of_sum-high-requires c =
    (omega arith, c.requires.0, c.requires.1.undone.small _ (omega arith))

pub image_of_sum-low-requires : goal.image_of_sum-low-requires
image_of_sum-low-requires c =
    (omega arith, c.requires.0, c.requires.1.undone.small _ (omega arith))

pub overflow_mul-dst : goal.overflow_mul-dst
overflow_mul-dst c =
    let high_lt : c.image_of_sum-high.result < 16 = let a = c.args in
    sum_image a.added.now a.res.now _ (2 * c.loop-k.k) _ c.requires.0 c.requires.1 (omega arith) c.image_of_sum-high.ensures in
    let low_lt : c.image_of_sum-low.result < 16 = let a = c.args in
    sum_image a.added.now a.res.now _ (2 * c.loop-k.k + 1) _ c.requires.0 c.requires.1 (omega arith) c.image_of_sum-low.ensures in
    omega (arith, high_lt, low_lt)

pub overflow_add-dst : goal.overflow_add-dst
overflow_add-dst c =
    let high_lt : c.image_of_sum-high.result < 16 = let a = c.args in
    sum_image a.added.now a.res.now _ (2 * c.loop-k.k) _ c.requires.0 c.requires.1 (omega arith) c.image_of_sum-high.ensures in
    let low_lt : c.image_of_sum-low.result < 16 = let a = c.args in
    sum_image a.added.now a.res.now _ (2 * c.loop-k.k + 1) _ c.requires.0 c.requires.1 (omega arith) c.image_of_sum-low.ensures in
    omega (arith, high_lt, low_lt)

pub loop-k-preserved : goal.loop-k-preserved
loop-k-preserved c =
    filled_more c.loop-k.invariant c.loop-k-test.true (ap₂ pack c.image_of_sum-high.ensures c.image_of_sum-low.ensures)

pub returns : goal.returns
unfolding packed
returns c = search filled_all
