-- `bits::encoding::nibble` meets its contract. Each way out has a law of `laws.Images`: behind the last byte the list reads 0 (`nibble_past`),
-- an even nibble is the high half of its byte (`nibble_high`), an odd one the low half (`nibble_low`). A half of a byte is below 16.
-- Assumes nothing.
use mathlib.Core.Path.{sym}
use Prim.Native.Nat.{◌/◌}
use Rattle.bits.proofs.laws.Images.{nibble_past, nibble_high, nibble_low}
use native.Mathlib.Omega.{arith}
use Rattle.bits.proofs.encoding.nibble.Goals as goal

pub returns-then-s-k : goal.returns-then-s-k
returns-then-s-k c = (sym (nibble_past _ _ (search)), omega arith)

pub returns-then-q-eq0 : goal.returns-then-q-eq0
returns-then-q-eq0 c =
    (sym (nibble_high _ _ (search)), omega (arith, c.type_inv.s (c.args.q / 2)))

pub returns-else-q-eq0 : goal.returns-else-q-eq0
returns-else-q-eq0 c = (sym (nibble_low _ _ (search)), omega arith)
