-- Laws, not definitions: of the xor of n numbers.
-- Assumes nothing.
use mathlib.Core.Bool.{cond}
use mathlib.Core.Path.{◌≡◌, refl, sym, ap, ap₂, ◌∙◌}
use Prim.Native.Nat.{ℕ, zero, suc, ◌+◌, ◌^◌, ◌≤◌, ◌<◌}
use native.Mathlib.Nat.{add-zero, add-suc}
use native.Mathlib.Decide.{ℕ_discrete}
use native.Mathlib.Omega.{arith}
use borrow.Author.Tests.{eq-eqb, ne_eqb}
use lib.Bits.{bit_xor, xor_lt, xor_self, xor_zero_r}
use lib.Dec.{eqb}
use lib.Pow.{pow_pos}
use Rattle.bits.specs.Groups.{xor_all}
use Rattle.bits.proofs.laws.Xor.{Linear, xor_assoc, xor_four}

pub xor_all_same : (n : ℕ) (f g : ℕ → ℕ) → ((i : ℕ) → i < n → f i ≡ g i) → xor_all n f ≡ xor_all n g
unfolding xor_all
xor_all_same zero f g e = refl
xor_all_same (suc n) f g e = ap₂ bit_xor (xor_all_same n f g (λ i h. e i (omega arith))) (e n (omega arith))

-- A linear map takes the xor of numbers to the xor of what it makes of them.
pub xor_all_linear : (u : ℕ → ℕ) → Linear u → (n : ℕ) (f : ℕ → ℕ) → u (xor_all n f) ≡ xor_all n (λ i. u (f i))
unfolding xor_all
xor_all_linear u l zero f = l 0 0 ∙ xor_self (u 0)
xor_all_linear u l (suc n) f = l (xor_all n f) (f n) ∙ ap (λ (x : ℕ). bit_xor x (u (f n))) (xor_all_linear u l n f)

pub xor_all_lt : (k n : ℕ) (f : ℕ → ℕ) → ((i : ℕ) → i < n → f i < 2 ^ k) → xor_all n f < 2 ^ k
unfolding xor_all
xor_all_lt k zero f b = pow_pos k
xor_all_lt k (suc n) f b = xor_lt k (xor_all n f) (f n) (xor_all_lt k n f (λ i h. b i (omega arith))) (b n (omega arith))

-- The xor of xors, and two xors in either order.
pub xor_all_xor : (n : ℕ) (f g : ℕ → ℕ) → xor_all n (λ i. bit_xor (f i) (g i)) ≡ bit_xor (xor_all n f) (xor_all n g)
unfolding xor_all
xor_all_xor zero f g = refl
xor_all_xor (suc n) f g =
    ap (λ (x : ℕ). bit_xor x (bit_xor (f n) (g n))) (xor_all_xor n f g) ∙ xor_four (xor_all n f) (xor_all n g) (f n) (g n)

pub xor_all_zero : (n : ℕ) → xor_all n (λ i. 0) ≡ 0
unfolding xor_all
xor_all_zero zero = refl
xor_all_zero (suc n) = xor_zero_r (xor_all n (λ i. 0)) ∙ xor_all_zero n

pub xor_all_swap : (n m : ℕ) (f : ℕ → ℕ → ℕ) → xor_all n (λ i. xor_all m (f i)) ≡ xor_all m (λ j. xor_all n (λ i. f i j))
unfolding xor_all
xor_all_swap zero m f = sym (xor_all_zero m)
xor_all_swap (suc n) m f =
    ap (λ (x : ℕ). bit_xor x (xor_all m (f n))) (xor_all_swap n m f) ∙ sym (xor_all_xor m (λ j. xor_all n (λ i. f i j)) (f n))

-- The xor of n numbers and of m more behind them.
pub xor_all_split : (n m : ℕ) (f : ℕ → ℕ) → xor_all (n + m) f ≡ bit_xor (xor_all n f) (xor_all m (λ i. f (n + i)))
unfolding xor_all
xor_all_split n zero f = ap (λ (k : ℕ). xor_all k f) (add-zero n) ∙ sym (xor_zero_r (xor_all n f))
xor_all_split n (suc m) f =
    ap (λ (k : ℕ). xor_all k f) (add-suc n m)
    ∙ ap (λ (x : ℕ). bit_xor x (f (n + m))) (xor_all_split n m f)
    ∙ xor_assoc (xor_all n f) (xor_all m (λ i. f (n + i))) (f (n + m))

-- The xor of linear maps is linear.
pub linear_xor_all : (n : ℕ) (f : ℕ → ℕ → ℕ) → ((i : ℕ) → Linear (f i)) → Linear (λ x. xor_all n (λ i. f i x))
linear_xor_all n f l x y = xor_all_same n _ _ (λ i h. l i x y) ∙ xor_all_xor n (λ i. f i x) (λ i. f i y)

-- Of the terms only one is not 0.
xor_all_none : (n j : ℕ) (f : ℕ → ℕ) → n ≤ j → xor_all n (λ i. cond (eqb j i) (f i) 0) ≡ 0
unfolding xor_all
xor_all_none zero j f h = refl
xor_all_none (suc n) j f h = rw (ne_eqb j n (λ e. omega arith), xor_all_none n j f (omega arith))

pub xor_all_one : (n j : ℕ) (f : ℕ → ℕ) → j < n → xor_all n (λ i. cond (eqb j i) (f i) 0) ≡ f j
unfolding xor_all
xor_all_one zero j f h = absurd (omega arith)
xor_all_one (suc n) j f h = go (ℕ_discrete j n) (λ l. xor_all_one n j f l)
  where
    go : Dec (j ≡ n) → (j < n → xor_all n (λ i. cond (eqb j i) (f i) 0) ≡ f j)
        → bit_xor (xor_all n (λ i. cond (eqb j i) (f i) 0)) (cond (eqb j n) (f n) 0) ≡ f j
    go (yes e) ih = rw (xor_all_none n j f (omega arith), eq-eqb j n e) (ap f (sym e))
    go (no e) ih = rw (ne_eqb j n e, ih (omega arith)) (xor_zero_r (f j))
