-- `substitution::values::substitute` fills the 256 places. The loop's invariant is `Filled` of `bits`: place k has byte
-- k of `read` behind the cipher's S-box (`behind_at`). A turn puts one more byte through the products of its nibbles and
-- the S-box as a table, which `columns`, `nibble_words` and `sbox_of` have made (`prepared`, `substituted_more`);
-- behind the last the list is whole. The sum that is looked up is a byte since `before` is one.
-- Assumes nothing.
use Rattle.bits.proofs.laws.Filled.{filled_none}
use Rattle.substitution.proofs.laws.Values.{prepared, substituted_more}
use native.Mathlib.Omega.{arith}
use Rattle.substitution.proofs.values.substitute.Goals as goal

pub loop-x-init : goal.loop-x-init
loop-x-init c = search filled_none

pub loop-x-preserved : goal.loop-x-preserved
loop-x-preserved c =
    let a = c.args in
    let made = prepared a.inverse.now _ _ (omega arith) (omega arith) c.columns.ensures c.nibble_words.ensures c.sbox_of-sbox.ensures in
    substituted_more made a.before a.behind (omega arith) a.read.now c.loop-x.invariant c.loop-x-test.true
    (c.type_inv.read _).fits c.substituted.ensures
