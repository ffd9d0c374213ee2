-- `field::xtimes` meets its contract. The code's test is the one of `xtime`. Where bit 7 of a is 0, twice a is the answer; else the bit is taken
-- away before a is doubled, which is twice a modulo 256, so that nothing overflows, and 1b hex is added.
-- Assumes nothing.
use mathlib.Core.Path.{◌≡◌, ap}
use Prim.Native.Nat.{ℕ, ◌-◌, ◌*◌, ◌%◌}
use native.Mathlib.Omega.{arith}
use lib.Bits.{bit_xor}
use borrow.Author.Tests.{lt-ltb, le-ltb}
use Rattle.field.specs.Field.{xtime}
use Rattle.field.proofs.xtimes.Goals as goal

pub returns-then-a-lt128 : goal.returns-then-a-lt128
unfolding xtime
returns-then-a-lt128 c = simp (lt-ltb _ _ c.if-a-lt128.true)

pub returns-else-a-lt128 : goal.returns-else-a-lt128
unfolding xtime
returns-else-a-lt128 c =
    let a = c.args.a in
    let doubled : (a - 128) * 2 ≡ a * 2 % 256 = omega arith in
    simp (le-ltb _ _ c.if-a-lt128.false) (ap (λ (z : ℕ). bit_xor z 0x1b) doubled)
