-- `layers::words::coefficient` reads entry 4 t + q of the code's 16 bytes `MIX` or `INV_MIX`, by the test of the cipher's number (`by_forward` and `by_inverse` of
-- layout's laws). They are those of `mix_rows` and `inv_mix_rows`, row by row: unfolding shows it. The index is below 16 as t and q are below 4.
-- Assumes nothing.
use mathlib.Core.List.{List}
use mathlib.Core.Path.{refl}
use Prim.Native.Nat.{ℕ}
use Rattle.round.specs.State.{entry, mix_rows, inv_mix_rows}
use Rattle.layout.proofs.laws.Ciphers.{by_forward, by_inverse}
use Rattle.layers.proofs.words.coefficient.Goals as goal

pub returns-then-cipher-eq0 : goal.returns-then-cipher-eq0
unfolding mix_rows
returns-then-cipher-eq0 c =
    by_forward (λ (m : List ℕ). entry m c.args.t c.args.q) _ mix_rows inv_mix_rows c.if-cipher-eq0.true refl

pub returns-else-cipher-eq0 : goal.returns-else-cipher-eq0
unfolding inv_mix_rows
returns-else-cipher-eq0 c =
    by_inverse (λ (m : List ℕ). entry m c.args.t c.args.q) _ mix_rows inv_mix_rows c.if-cipher-eq0.false refl
