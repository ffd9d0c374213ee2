-- Laws, not definitions: a product, or a word, is linear in its byte, so those of 2^0 to 2^7 give all of them.
-- Assumes nothing.
use mathlib.Core.Bool.{Bool, true, false, cond}
use mathlib.Core.List.{List}
use mathlib.Core.Path.{◌≡◌, ap, ◌∙◌}
use Prim.Native.Nat.{ℕ, ◌*◌, ◌/◌, ◌%◌, ◌^◌, ◌<◌}
use native.Mathlib.Omega.{arith}
use lib.Dec.{eqb, eqb→eq}
use Rattle.bits.specs.Bytes.{number, byte, placed}
use Rattle.bits.specs.Lists.{at}
use Rattle.bits.proofs.laws.Checked.{all, all_at}
use Rattle.bits.proofs.laws.Groups.{joined_same, joined_xor, group_xor}
use Rattle.bits.proofs.laws.Xor.{Linear, cond_xor, cond_lt}
use Rattle.bits.proofs.laws.XorAll.{xor_all_same, xor_all_one}
use Rattle.matrices.specs.ByNibbles.{combined}
use Rattle.matrices.specs.Matrices.{product}
use Rattle.matrices.proofs.laws.ByNibbles.{combined_linear}
use Rattle.matrices.proofs.laws.Matrices.{product_lt, product_xor}
use Rattle.field.specs.Field.{mul}
use Rattle.field.proofs.laws.Field.{mul_xor, mul_lt}
use Rattle.field.proofs.laws.OnBytes.{OnBytes, same}

-- ---- the xor of eight words
abbrev bit_is : ℕ → ℕ → Bool
bit_is j i = eqb (2 ^ j / 2 ^ i % 2) (cond (eqb j i) 1 0)

one_bit : (j i : ℕ) → j < 8 → i < 8 → 2 ^ j / 2 ^ i % 2 ≡ cond (eqb j i) 1 0
one_bit j i h k = eqb→eq _ _ (all_at 8 (bit_is j) (all_at 8 (λ j. all 8 (bit_is j)) tt j h) i k)

picked : (b : Bool) (x : ℕ) → cond b 1 0 * x ≡ cond b x 0
picked true x = omega arith
picked false x = omega arith

combined_power : (f : ℕ → ℕ) (j : ℕ) → j < 8 → combined f (2 ^ j) ≡ f j
unfolding combined
combined_power f j h =
    xor_all_same 8 _ _ (λ i k. ap (λ (b : ℕ). b * f i) (one_bit j i h k) ∙ picked (eqb j i) (f i)) ∙ xor_all_one 8 j f h

-- Every byte's word is the xor of the words at its bits.
pub by_powers : (W f : ℕ → ℕ) → OnBytes W → ((j : ℕ) → j < 8 → f j ≡ W (2 ^ j)) → (y : ℕ) → y < 256 → combined f y ≡ W y
by_powers W f lin e = same (combined f) W (λ x y h k. combined_linear f x y) lin (λ j h. combined_power f j h ∙ e j h)

-- ---- the three forms of a word
placed_xor : (n i : ℕ) → OnBytes (placed n i)
unfolding placed
placed_xor n i x y h k =
    joined_same 8 n _ _ (λ j g. cond_xor (eqb j i) x y)
    ∙ joined_xor 8 n (λ j. cond (eqb j i) x 0) (λ j. cond (eqb j i) y 0) (λ j g. cond_lt (eqb j i) x 256 (omega arith) h) (λ j g. cond_lt (eqb j i) y 256 (omega arith) k)

-- A linear map of n bytes, then each byte by a matrix.
bytes_xor : (n : ℕ) (B : ℕ → List ℕ) → Linear (λ v. number n (λ j. product 8 (B j) (byte n j v)))
bytes_xor n B x y =
    joined_same 8 n _ _ (λ j h. ap (product 8 (B j)) (group_xor 8 n j x y) ∙ product_xor 8 (at (B j)) (byte n j x) (byte n j y))
    ∙ joined_xor 8 n (λ j. product 8 (B j) (byte n j x)) (λ j. product 8 (B j) (byte n j y)) (λ j h. product_lt 8 (at (B j)) _) (λ j h. product_lt 8 (at (B j)) _)

pub spread_xor : (n w i : ℕ) (M : List ℕ) (B : ℕ → List ℕ) → OnBytes (λ y. number n (λ j. product 8 (B j) (byte n j (product w M (placed n i y)))))
spread_xor n w i M B x y h k =
    ap (λ (v : ℕ). number n (λ j. product 8 (B j) (byte n j (product w M v)))) (placed_xor n i x y h k)
    ∙ ap (λ (v : ℕ). number n (λ j. product 8 (B j) (byte n j v))) (product_xor w (at M) (placed n i x) (placed n i y))
    ∙ bytes_xor n B (product w M (placed n i x)) (product w M (placed n i y))

pub mixed_xor : (M : List ℕ) (c : ℕ → ℕ) → ((t : ℕ) → t < 4 → c t < 256) → OnBytes (λ y. product 32 M (number 4 (λ t. mul (c t) y)))
mixed_xor M c below x y h k =
    ap (product 32 M)
    (joined_same 8 4 _ _ (λ t g. mul_xor (c t) x y)
    ∙ joined_xor 8 4 (λ t. mul (c t) x) (λ t. mul (c t) y) (λ t g. mul_lt (c t) x (below t g)) (λ t g. mul_lt (c t) y (below t g)))
    ∙ product_xor 32 (at M) (number 4 (λ t. mul (c t) x)) (number 4 (λ t. mul (c t) y))

pub exit_xor : (M : List ℕ) (i : ℕ) → OnBytes (λ y. product 128 M (placed 16 i y))
exit_xor M i x y h k = ap (product 128 M) (placed_xor 16 i x y h k) ∙ product_xor 128 (at M) (placed 16 i x) (placed 16 i y)
