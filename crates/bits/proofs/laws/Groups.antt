-- Laws, not definitions: numbers as n groups of k bits, over any k and n.
-- Assumes nothing.
use mathlib.Core.Bool.{cond}
use mathlib.Core.Logic.{◌⊎◌, inl, inr, ⊎_elim}
use mathlib.Core.Path.{◌≡◌, refl, sym, ap, ap₂, ◌∙◌, subst}
use Prim.Native.Nat.{ℕ, zero, suc, ◌+◌, ◌-◌, ◌*◌, ◌/◌, ◌%◌, ◌^◌, ◌<◌}
use native.Mathlib.Decide.{dec_lt}
use native.Mathlib.Nat.{mod-lt, mul-suc, mul-zero, mul_assoc, sub_self, div-one, add_comm, add-zero}
use native.Mathlib.Numerals.{add-one}
use native.Mathlib.Omega.{arith}
use borrow.Author.Tests.{eq-eqb, ne_eqb}
use lib.Arith.{digits_lt}
use lib.Bits.{bit_xor, xor_shr, xor_mod, xor_block}
use lib.Dec.{eqb}
use lib.Pow.{pow_pos, pow-add, shr-shr, shr_lt, high, low, split}
use Rattle.bits.specs.Groups.{joined, group, xor_all}
use Rattle.bits.proofs.laws.XorAll.{xor_all_lt, xor_all_one}
use Rattle.bits.proofs.laws.Xor.{cond_lt}

pub below_suc : {i n : ℕ} → i < suc n → (i < n) ⊎ (i ≡ n)
below_suc {i} {n} h = elim (dec_lt i n) [ yes p ↦ inl p | no q ↦ inr (omega arith) ]

pub group_lt : (k n i v : ℕ) → group k n i v < 2 ^ k
unfolding group
group_lt k n i v = mod-lt (v / 2 ^ (k * (n - suc i))) (pow_pos k)

pub group_xor : (k n i a b : ℕ) → group k n i (bit_xor a b) ≡ bit_xor (group k n i a) (group k n i b)
unfolding group
group_xor k n i a b =
    let s = k * (n - suc i) in
    ap (λ (x : ℕ). x % 2 ^ k) (xor_shr a b s) ∙ xor_mod (a / 2 ^ s) (b / 2 ^ s) k

-- ---- one group more at the bottom
pub group_above : (k n i v : ℕ) → i < n → group k (suc n) i v ≡ group k n i (v / 2 ^ k)
unfolding group
group_above k n i v h =
    let e : suc n - suc i ≡ suc (n - suc i) = omega arith in
    let s : k * (suc n - suc i) ≡ k + k * (n - suc i) = ap (λ (x : ℕ). k * x) e ∙ mul-suc k (n - suc i) ∙ add_comm (k * (n - suc i)) k in
    ap (λ (x : ℕ). x % 2 ^ k) (ap (λ (x : ℕ). v / 2 ^ x) s ∙ sym (shr-shr v k (k * (n - suc i))))

pub group_last : (k n v : ℕ) → group k (suc n) n v ≡ v % 2 ^ k
unfolding group
group_last k n v =
    let s : k * (suc n - suc n) ≡ 0 = ap (λ (x : ℕ). k * x) (sub_self (suc n)) ∙ mul-zero k in
    ap (λ (x : ℕ). v / 2 ^ x % 2 ^ k) s ∙ ap (λ (x : ℕ). x % 2 ^ k) (div-one v)

wider : (k n : ℕ) → 2 ^ (k * suc n) ≡ 2 ^ (k * n) * 2 ^ k
wider k n = ap (λ (x : ℕ). 2 ^ x) (mul-suc k n) ∙ pow-add 2 (k * n) k

-- ---- joining
pub joined_lt : (k n : ℕ) (f : ℕ → ℕ) → ((i : ℕ) → i < n → f i < 2 ^ k) → joined k n f < 2 ^ (k * n)
unfolding joined
joined_lt k zero f b = pow_pos (k * zero)
joined_lt k (suc n) f b =
    subst (λ (x : ℕ). joined k n f * 2 ^ k + f n < x) (sym (wider k n))
    (digits_lt (joined_lt k n f (λ i h. b i (omega arith))) (b n (omega arith)))

pub joined_same : (k n : ℕ) (f g : ℕ → ℕ) → ((i : ℕ) → i < n → f i ≡ g i) → joined k n f ≡ joined k n g
unfolding joined
joined_same k zero f g e = refl
joined_same k (suc n) f g e =
    ap₂ (λ (x y : ℕ). x * 2 ^ k + y) (joined_same k n f g (λ i h. e i (omega arith))) (e n (omega arith))

pub joined_zero : (k n : ℕ) (f : ℕ → ℕ) → ((i : ℕ) → i < n → f i ≡ 0) → joined k n f ≡ 0
unfolding joined
joined_zero k zero f e = refl
joined_zero k (suc n) f e =
    ap₂ (λ (x y : ℕ). x * 2 ^ k + y) (joined_zero k n f (λ i h. e i (omega arith))) (e n (omega arith)) ∙ omega arith

pub joined_xor : (k n : ℕ) (f g : ℕ → ℕ) → ((i : ℕ) → i < n → f i < 2 ^ k) → ((i : ℕ) → i < n → g i < 2 ^ k)
    → joined k n (λ i. bit_xor (f i) (g i)) ≡ bit_xor (joined k n f) (joined k n g)
unfolding joined
joined_xor k zero f g a b = refl
joined_xor k (suc n) f g a b =
    ap (λ (x : ℕ). x * 2 ^ k + bit_xor (f n) (g n)) (joined_xor k n f g (λ i h. a i (omega arith)) (λ i h. b i (omega arith)))
    ∙ sym (xor_block k (joined k n f) (joined k n g) (f n) (g n) (a n (omega arith)) (b n (omega arith)))

-- One group alone, the others being 0.
pub joined_one : (k n i x : ℕ) → i < n → joined k n (λ j. cond (eqb j i) x 0) ≡ x * 2 ^ (k * (n - suc i))
unfolding joined
joined_one k zero i x h = absurd (omega arith)
joined_one k (suc n) i x h =
    ⊎_elim
    (λ (p : i < n).
    let up : suc (n - suc i) ≡ suc n - suc i = omega arith in
    ap₂ (λ (a b : ℕ). a * 2 ^ k + b) (joined_one k n i x p) (rw (ne_eqb n i (omega arith)))
    ∙ add-zero (x * 2 ^ (k * (n - suc i)) * 2 ^ k)
    ∙ mul_assoc x (2 ^ (k * (n - suc i))) (2 ^ k)
    ∙ ap (λ (a : ℕ). x * a) (sym (wider k (n - suc i)) ∙ ap (λ (a : ℕ). 2 ^ (k * a)) up))
    (λ (p : i ≡ n).
    let none : k * (suc n - suc i) ≡ 0 = ap (λ (a : ℕ). k * (suc n - suc a)) p ∙ ap (λ (a : ℕ). k * a) (sub_self (suc n)) ∙ mul-zero k in
    ap₂ (λ (a b : ℕ). a * 2 ^ k + b) (joined_zero k n _ (λ j l. rw (ne_eqb j i (omega arith)))) (rw (eq-eqb n i (sym p)))
    ∙ let one : 0 * 2 ^ k + x ≡ x * 1 = omega arith in one ∙ ap (λ (a : ℕ). x * 2 ^ a) (sym none))
    (below_suc h)

-- One group more, as a loop has it.
pub joined_next : (k n : ℕ) (f : ℕ → ℕ) → joined k (n + 1) f ≡ joined k n f * 2 ^ k + f n
unfolding joined
joined_next k n f = ap (λ (x : ℕ). joined k x f) (add-one n)

-- Each group of a joined number is the one that was joined.
pub group_joined : (k n : ℕ) (f : ℕ → ℕ) → ((i : ℕ) → i < n → f i < 2 ^ k) → (i : ℕ) → i < n → group k n i (joined k n f) ≡ f i
unfolding joined
group_joined k zero f b i h = absurd (omega arith)
group_joined k (suc n) f b i h =
    let v = joined k n f * 2 ^ k + f n in
    ⊎_elim
    (λ (p : i < n).
    group_above k n i v p ∙ ap (group k n i) (high (joined k n f) k (b n (omega arith)))
    ∙ group_joined k n f (λ j q. b j (omega arith)) i p)
    (λ (p : i ≡ n).
    ap (λ (x : ℕ). group k (suc n) x v) p ∙ group_last k n v ∙ low (joined k n f) k (b n (omega arith)) ∙ ap f (sym p))
    (below_suc h)

-- A number is its groups, joined.
pub joined_group : (k n v : ℕ) → v < 2 ^ (k * n) → joined k n (λ i. group k n i v) ≡ v
unfolding joined
joined_group k zero v h =
    let z : v < 1 = subst (λ (x : ℕ). v < 2 ^ x) (mul-zero k) h in
    omega arith
joined_group k (suc n) v h =
    let l : v / 2 ^ k < 2 ^ (k * n) = shr_lt (k * n) k (subst (λ (x : ℕ). v < 2 ^ x) (mul-suc k n) h) in
    ap₂ (λ (x y : ℕ). x * 2 ^ k + y)
    (joined_same k n _ _ (λ i p. group_above k n i v p) ∙ joined_group k n (v / 2 ^ k) l) (group_last k n v)
    ∙ split v k

pub group_ext : (k n a b : ℕ) → a < 2 ^ (k * n) → b < 2 ^ (k * n) → ((i : ℕ) → i < n → group k n i a ≡ group k n i b) → a ≡ b
group_ext k n a b ha hb e = sym (joined_group k n a ha) ∙ joined_same k n _ _ e ∙ joined_group k n b hb

-- ---- the xor of several numbers
-- Groups that are xors.
pub joined_xor_all : (k n m : ℕ) (f : ℕ → ℕ → ℕ) → ((i j : ℕ) → i < n → j < m → f i j < 2 ^ k)
    → joined k n (λ i. xor_all m (f i)) ≡ xor_all m (λ j. joined k n (λ i. f i j))
unfolding xor_all
joined_xor_all k n zero f b = joined_zero k n _ (λ i h. refl)
joined_xor_all k n (suc m) f b =
    joined_xor k n (λ i. xor_all m (f i)) (λ i. f i m) (λ i h. xor_all_lt k m (f i) (λ j l. b i j h (omega arith))) (λ i h. b i m h (omega arith))
    ∙ ap (λ (x : ℕ). bit_xor x (joined k n (λ i. f i m))) (joined_xor_all k n m f (λ i j h l. b i j h (omega arith)))

-- n groups are the xor of them, each placed alone.
pub xor_placed : (k n : ℕ) (f : ℕ → ℕ) → ((i : ℕ) → i < n → f i < 2 ^ k)
    → xor_all n (λ i. joined k n (λ j. cond (eqb j i) (f i) 0)) ≡ joined k n f
xor_placed k n f b =
    sym (joined_xor_all k n n (λ j i. cond (eqb j i) (f i) 0) (λ j i h l. cond_lt (eqb j i) (f i) (2 ^ k) (pow_pos k) (b i l)))
    ∙ joined_same k n _ f (λ j h. xor_all_one n j f h)
