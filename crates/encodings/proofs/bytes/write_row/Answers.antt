-- `encodings::bytes::write_row` fills the 16 places from the front, place v with the packed byte (`Filled` of bits). Both are nibbles by the `requires`,
-- so that packing them wraps nowhere.
-- Assumes nothing.
use mathlib.Core.Path.{refl}
use Rattle.bits.proofs.laws.Filled.{filled_none, filled_more, filled_all}
use native.Mathlib.Omega.{arith}
use Rattle.encodings.proofs.bytes.write_row.Goals as goal

pub loop-v-init : goal.loop-v-init
loop-v-init c = filled_none 16 _ _ (omega arith)

pub overflow_add-dst : goal.overflow_add-dst
overflow_add-dst c =
    omega (arith, c.requires.1.small _ c.loop-v-test.true)

pub loop-v-preserved : goal.loop-v-preserved
loop-v-preserved c =
    filled_more c.loop-v.invariant c.loop-v-test.true refl

pub returns : goal.returns
returns c = search filled_all
