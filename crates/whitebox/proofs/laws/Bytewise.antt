-- Laws, not definitions: FIPS 197's row shifts and column mixing byte by byte, as the tables make them.
-- Assumes nothing.
use mathlib.Core.List.{List}
use mathlib.Core.Path.{◌≡◌, ap, ap₂, ◌∙◌}
use Prim.Native.Nat.{ℕ, ◌+◌, ◌-◌, ◌*◌, ◌/◌, ◌%◌, ◌<◌}
use native.Mathlib.Omega.{arith}
use Rattle.bits.specs.Lists.{at}
use Rattle.bits.proofs.laws.Lists.{tabulate_ext}
use Rattle.bits.proofs.laws.XorAll.{xor_all_same}
use Rattle.field.specs.Field.{mul}
use Rattle.round.specs.State.{state, entry, mix_by, ShiftRows, InvShiftRows}
use Rattle.round.proofs.laws.State.{at_state}
use Rattle.layout.specs.Ciphers.{inv_shifted}
use Rattle.layout.specs.Stages.{shifted}
use Rattle.whitebox.specs.Parts.{Parts}
use Rattle.whitebox.specs.States.{mixed}

-- ---- the row shifts: position p reads byte `shifted p`, or byte `inv_shifted p`
pub shift_at : (s : List ℕ) (p : ℕ) → p < 16 → at (ShiftRows s) p ≡ at s (shifted p)
unfolding ShiftRows shifted
shift_at s p h = at_state _ p h ∙ ap (at s) (let e : p % 4 + 4 * ((p / 4 + p % 4) % 4) ≡ 4 * ((p / 4 + p % 4) % 4) + p % 4 = omega arith in e)

pub inv_shift_at : (s : List ℕ) (p : ℕ) → p < 16 → at (InvShiftRows s) p ≡ at s (inv_shifted p)
unfolding InvShiftRows inv_shifted
inv_shift_at s p h =
    at_state _ p h ∙ ap (at s) (let e : p % 4 + 4 * ((p / 4 + (4 - p % 4)) % 4) ≡ 4 * ((p / 4 + (4 - p % 4)) % 4) + p % 4 = omega arith in e)

-- ---- the column mixing, by the matrix that the coefficients are
pub mixed_by : (P : Parts) (m s : List ℕ) → ((t q : ℕ) → P.coefficient t q ≡ entry m t q) → mixed P s ≡ mix_by m s
unfolding mixed mix_by state
mixed_by P m s e =
    tabulate_ext 16 _ _ (λ i h.
    xor_all_same 4 _ _ (λ q l. ap₂ (λ (k j : ℕ). mul k (at s j)) (e (i % 4) q) (let f : 4 * (i / 4) + q ≡ q + 4 * (i / 4) = omega arith in f)))
