-- Laws, not definitions: the inverse is the only one, and so S is the affine map of any inverse.
-- Assumes nothing.
use mathlib.Core.Path.{◌≡◌, refl, sym, ap, ◌∙◌}
use Prim.Native.Nat.{ℕ, zero, suc, ◌<◌}
use native.Mathlib.Omega.{arith}
use lib.Dec.{lit<}
use Rattle.field.specs.Field.{xtime, times, mul, squares, inverse}
use Rattle.field.specs.Sbox.{affine, sbox_of}
use Rattle.field.specs.Theorems.{InverseUnique, SboxRule, SboxZero}
use Rattle.field.proofs.laws.Field.{mul_lt, mul_comm, mul_assoc, mul_one}
use Rattle.field.proofs.laws.Sbox.{inverse_right}

small : (k p acc : ℕ) → p < 256 → acc < 256 → squares k p acc < 256
unfolding squares
small zero p acc h q = q
small (suc k) p acc h q = small k (mul p p) (mul (mul p p) acc) (mul_lt p p h) (mul_lt (mul p p) acc (mul_lt p p h))

pub inverse_lt : (x : ℕ) → x < 256 → inverse x < 256
unfolding inverse
inverse_lt x h = small 7 x 1 h (lit< tt)

zero_left : (y : ℕ) → y < 256 → mul 0 y ≡ 0
unfolding times mul
zero_left y h = mul_comm 0 y (lit< tt) h

pub inverse_unique : InverseUnique
inverse_unique zero y hx hy e = absurd (omega (arith, zero_left y hy))
inverse_unique (suc n) y hx hy e =
    let x : ℕ = suc n in
    let i : ℕ = inverse x in
    let hi : i < 256 = inverse_lt x hx in
    let r : mul x i ≡ 1 = inverse_right x (omega arith) hx in
    sym (mul_one y hy)
    ∙ ap (mul y) (sym r)
    ∙ sym (mul_assoc y x i hy hx hi)
    ∙ ap (λ (z : ℕ). mul z i) (mul_comm y x hy hx ∙ e)
    ∙ mul_comm 1 i (lit< tt) hi
    ∙ mul_one i hi

pub sbox_rule : SboxRule
unfolding sbox_of
sbox_rule x y hx hy e = ap affine (sym (inverse_unique x y hx hy e))

pub sbox_zero : SboxZero
unfolding xtime times mul squares inverse sbox_of
sbox_zero = refl
