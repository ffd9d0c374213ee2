-- `judgement::search::image` meets its contract: an even nibble is the high half of its byte (`nibble_high` of bits' `laws.Images`), an odd one the low half
-- (`nibble_low`). A half of a byte is below 16.
-- Assumes nothing.
use mathlib.Core.Path.{sym}
use Prim.Native.Nat.{◌/◌}
use Rattle.bits.proofs.laws.Images.{nibble_high, nibble_low}
use native.Mathlib.Omega.{arith}
use Rattle.judgement.proofs.search.image.Goals as goal

pub returns-then-q-eq0 : goal.returns-then-q-eq0
returns-then-q-eq0 c =
    (sym (nibble_high _ _ (search)), omega (arith, c.type_inv.lists (c.args.q / 2)))

pub returns-else-q-eq0 : goal.returns-else-q-eq0
returns-else-q-eq0 c = (sym (nibble_low _ _ (search)), omega arith)
