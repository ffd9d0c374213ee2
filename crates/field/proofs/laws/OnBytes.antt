-- Laws, not definitions: of functions that are linear over xor on bytes.
-- Assumes nothing.
use mathlib.Core.Path.{◌≡◌, sym, ap, ◌∙◌}
use Prim.Native.Nat.{ℕ, ◌%◌, ◌^◌, ◌<◌}
use native.Mathlib.Nat.{mod-lt, mod-eq_of_lt}
use lib.Dec.{lit<}
use lib.Pow.{pow-lt}
use lib.Bits.{bit_xor, xor_mod}
use Rattle.bits.proofs.laws.Xor.{agree}

abbrev pub OnBytes : (ℕ → ℕ) → Type 0
OnBytes f = (x y : ℕ) → x < 256 → y < 256 → f (bit_xor x y) ≡ bit_xor (f x) (f y)

low : (x : ℕ) → x % 256 < 256
low x = mod-lt x (lit< tt)

whole : (f : ℕ → ℕ) → OnBytes f → (x y : ℕ) → f (bit_xor x y % 256) ≡ bit_xor (f (x % 256)) (f (y % 256))
whole f l x y = ap f (xor_mod x y 8) ∙ l (x % 256) (y % 256) (low x) (low y)

-- Two such functions that agree at the eight powers of 2 agree.
pub same : (f g : ℕ → ℕ) → OnBytes f → OnBytes g → ((j : ℕ) → j < 8 → f (2 ^ j) ≡ g (2 ^ j)) → (x : ℕ) → x < 256 → f x ≡ g x
same f g lf lg b x h =
    ap f (sym (mod-eq_of_lt h))
    ∙ agree (λ y. f (y % 256)) (λ y. g (y % 256)) (whole f lf) (whole g lg) 8
    (λ j p. let e : 2 ^ j % 256 ≡ 2 ^ j = mod-eq_of_lt (pow-lt {i = j} {j = 8} p) in ap f e ∙ b j p ∙ ap g (sym e)) x h
    ∙ ap g (mod-eq_of_lt h)
