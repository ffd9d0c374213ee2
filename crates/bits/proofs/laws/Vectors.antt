-- Laws, not definitions: the dot product, and the bits of a vector from the top.
-- Assumes nothing.
use mathlib.Core.Logic.{◌≢◌}
use mathlib.Core.Path.{◌≡◌, refl, sym, ap, ap₂, ◌∙◌, subst}
use Prim.Native.Nat.{ℕ, zero, suc, ◌+◌, ◌-◌, ◌*◌, ◌/◌, ◌%◌, ◌^◌, ◌<◌, min}
use native.Mathlib.Nat.{zero-lt-suc, pow-suc, zero-mul, one-mul, mul-add, mul-suc, add-zero, mul-mod_left, mul-div_cancel, zero-div, div-one}
use native.Mathlib.Omega.{arith}
use lib.Bits.{bit_and, bit_xor, and_comm, and_high, and_shr}
use lib.Count.{ones, ones_cat}
use lib.Pow.{pow_pos, pow-lt, shr-shr, field, mod-mod-pow}
use Rattle.bits.specs.Groups.{group}
use Rattle.bits.specs.Vectors.{bit, vector, unit, dot, delta}
use Rattle.bits.proofs.laws.Xor.{two, odd_lt, and_least, and_xor, ones_xor}
use Rattle.bits.proofs.laws.Groups.{group_lt, group_xor, group_ext, joined_lt, group_joined}

-- ---- the dot product
pub dot_lt : (a b : ℕ) → dot a b < 2
unfolding dot
dot_lt a b = odd_lt (ones (bit_and a b))

pub dot_comm : (a b : ℕ) → dot a b ≡ dot b a
unfolding dot
dot_comm a b = ap (λ (x : ℕ). ones x % 2) (and_comm a b)

pub dot_xor : (r x y : ℕ) → dot r (bit_xor x y) ≡ (dot r x + dot r y) % 2
unfolding dot
dot_xor r x y = ap (λ (z : ℕ). ones z % 2) (and_xor r x y) ∙ ones_xor (bit_and r x) (bit_and r y)

pub xor_dot : (x y r : ℕ) → dot (bit_xor x y) r ≡ (dot x r + dot y r) % 2
xor_dot x y r = dot_comm (bit_xor x y) r ∙ dot_xor r x y ∙ ap₂ (λ (u v : ℕ). (u + v) % 2) (dot_comm r x) (dot_comm r y)

dot_zero_l : (b : ℕ) → dot 0 b ≡ 0
unfolding dot ones
dot_zero_l b = refl

pub dot_zero_r : (b : ℕ) → dot b 0 ≡ 0
dot_zero_r b = dot_comm b 0 ∙ dot_zero_l b

pub dot_scale : (c g x : ℕ) → c < 2 → dot (c * g) x ≡ c * dot g x
dot_scale c g x h =
    two (λ c. dot (c * g) x ≡ c * dot g x)
    (ap (λ (z : ℕ). dot z x) (zero-mul g) ∙ dot_zero_l x ∙ sym (zero-mul (dot g x)))
    (ap (λ (z : ℕ). dot z x) (one-mul g) ∙ sym (one-mul (dot g x))) c h

-- ---- digit j of a number, from the bottom
pub dot_power : (j r : ℕ) → dot (2 ^ j) r ≡ r / 2 ^ j % 2
unfolding dot ones
dot_power j r =
    let up : 1 + j ≡ suc j = omega arith in
    let e : bit_and r (2 ^ j) ≡ r / 2 ^ j % 2 * 2 ^ j =
    ap (bit_and r) (omega (arith, ap (λ (x : ℕ). 2 ^ x) up, pow-suc 2 j)) ∙ and_high r 1 j in
    let one : (b : ℕ) → b < 2 → ones b % 2 ≡ b = two (λ b. ones b % 2 ≡ b) refl refl in
    let q = r / 2 ^ j % 2 in
    dot_comm (2 ^ j) r
    ∙ ap (λ (x : ℕ). ones x % 2) (e ∙ sym (add-zero (q * 2 ^ j)))
    ∙ ap (λ (x : ℕ). x % 2) (ones_cat j q 0 (pow_pos j) ∙ add-zero (ones q))
    ∙ one q (odd_lt (r / 2 ^ j))

-- ---- Kronecker's delta
pub delta_same : (i : ℕ) → delta i i ≡ 1
unfolding delta
delta_same zero = refl
delta_same (suc i) = delta_same i

pub delta_eq : (i j : ℕ) → i ≡ j → delta i j ≡ 1
delta_eq i j e = ap (λ (x : ℕ). delta i x) (sym e) ∙ delta_same i

pub delta_other : (i j : ℕ) → i ≢ j → delta i j ≡ 0
unfolding delta
delta_other zero zero h = absurd (h refl)
delta_other zero (suc j) h = refl
delta_other (suc i) zero h = refl
delta_other (suc i) (suc j) h = delta_other i j (λ e. h (ap suc e))

pub delta_lt : (i j : ℕ) → delta i j < 2
unfolding delta
delta_lt zero zero = omega arith
delta_lt zero (suc j) = omega arith
delta_lt (suc i) zero = omega arith
delta_lt (suc i) (suc j) = delta_lt i j

power_digit : (k j : ℕ) → 2 ^ j / 2 ^ k % 2 ≡ delta j k
unfolding delta
power_digit zero zero = refl
power_digit zero (suc j) = ap (λ (x : ℕ). x % 2) (div-one (2 ^ suc j) ∙ pow-suc 2 j) ∙ mul-mod_left (2 ^ j) 2
power_digit (suc k) zero = ap (λ (x : ℕ). x % 2) (sym (down 1)) ∙ ap (λ (x : ℕ). x % 2) (zero-div (2 ^ k))
  where
    down : (a : ℕ) → a / 2 / 2 ^ k ≡ a / 2 ^ suc k
    down a = shr-shr a 1 k ∙ ap (λ (x : ℕ). a / 2 ^ x) (let e : 1 + k ≡ suc k = omega arith in e)
power_digit (suc k) (suc j) =
    let e : 1 + k ≡ suc k = omega arith in
    ap (λ (x : ℕ). x % 2)
    (ap (λ (x : ℕ). 2 ^ suc j / 2 ^ x) (sym e) ∙ sym (shr-shr (2 ^ suc j) 1 k)
    ∙ ap (λ (x : ℕ). x / 2 ^ k) (ap (λ (x : ℕ). x / 2) (pow-suc 2 j) ∙ mul-div_cancel (2 ^ j) (zero-lt-suc 1)))
    ∙ power_digit k j

-- ---- bits from the top
pub bit_shift : (n i v : ℕ) → bit n i v ≡ v / 2 ^ (n - suc i) % 2
unfolding group
bit_shift n i v = ap (λ (x : ℕ). v / 2 ^ x % 2) (one-mul (n - suc i))

pub bit_lt : (n i v : ℕ) → bit n i v < 2
bit_lt n i v = group_lt 1 n i v

xor_small : (p q : ℕ) → p < 2 → q < 2 → bit_xor p q ≡ (p + q) % 2
xor_small p q hp hq =
    two (λ x. bit_xor x q ≡ (x + q) % 2)
    (two (λ y. bit_xor 0 y ≡ (0 + y) % 2) refl refl q hq) (two (λ y. bit_xor 1 y ≡ (1 + y) % 2) refl refl q hq) p hp

pub bit_xor_lem : (n i a b : ℕ) → bit n i (bit_xor a b) ≡ (bit n i a + bit n i b) % 2
bit_xor_lem n i a b = group_xor 1 n i a b ∙ xor_small (bit n i a) (bit n i b) (bit_lt n i a) (bit_lt n i b)

pub bit_and_lem : (n i a b : ℕ) → bit n i (bit_and a b) ≡ min (bit n i a) (bit n i b)
bit_and_lem n i a b =
    let s = n - suc i in
    bit_shift n i (bit_and a b)
    ∙ ap (λ (x : ℕ). x % 2) (and_shr a b s)
    ∙ and_least (a / 2 ^ s) (b / 2 ^ s)
    ∙ sym (ap₂ min (bit_shift n i a) (bit_shift n i b))

-- Bit j of group i of a number of n groups of k bits is a bit of the number.
pub bit_group : (k n i j v : ℕ) → i < n → j < k → bit k j (group k n i v) ≡ bit (k * n) (k * i + j) v
unfolding group
bit_group k n i j v hi hj =
    let d = k * (n - suc i) in
    let e = k - suc j in
    let wide : k ≡ j + 1 + e = omega arith in
    let long : k * n ≡ d + k * suc i = ap (λ (x : ℕ). k * x) (let q : n ≡ n - suc i + suc i = omega arith in q) ∙ mul-add k (n - suc i) (suc i) in
    let below : d + e ≡ k * n - suc (k * i + j) = omega (arith, long, mul-suc k i) in
    bit_shift k j (group k n i v)
    ∙ ap (λ (x : ℕ). v / 2 ^ d % 2 ^ x / 2 ^ e % 2) wide
    ∙ ap (λ (x : ℕ). x % 2) (field (v / 2 ^ d) (j + 1) e)
    ∙ mod-mod-pow (v / 2 ^ d / 2 ^ e) j 1
    ∙ ap (λ (x : ℕ). x % 2) (shr-shr v d e)
    ∙ ap (λ (x : ℕ). v / 2 ^ x % 2) below
    ∙ sym (bit_shift (k * n) (k * i + j) v)

pub bit_zero : (n i : ℕ) → bit n i 0 ≡ 0
bit_zero n i = bit_shift n i 0 ∙ ap (λ (x : ℕ). x % 2) (zero-div (2 ^ (n - suc i)))

pub bit_scale : (n i c a : ℕ) → c < 2 → bit n i (c * a) ≡ c * bit n i a
bit_scale n i c a h =
    two (λ c. bit n i (c * a) ≡ c * bit n i a)
    (ap (bit n i) (zero-mul a) ∙ bit_zero n i ∙ sym (zero-mul (bit n i a)))
    (ap (bit n i) (one-mul a) ∙ sym (one-mul (bit n i a))) c h

pub unit_dot : (n i v : ℕ) → dot (unit n i) v ≡ bit n i v
unit_dot n i v = dot_power (n - suc i) v ∙ sym (bit_shift n i v)

pub dot_unit : (n i v : ℕ) → dot v (unit n i) ≡ bit n i v
dot_unit n i v = dot_comm v (unit n i) ∙ unit_dot n i v

pub unit_lt : (n i : ℕ) → i < n → unit n i < 2 ^ n
unit_lt n i h = pow-lt (omega arith)

pub bit_unit_same : (n i : ℕ) → bit n i (unit n i) ≡ 1
bit_unit_same n i = bit_shift n i (unit n i) ∙ power_digit (n - suc i) (n - suc i) ∙ delta_same (n - suc i)

pub bit_unit_other : (n i j : ℕ) → i < n → j < n → i ≢ j → bit n j (unit n i) ≡ 0
bit_unit_other n i j hi hj e =
    bit_shift n j (unit n i) ∙ power_digit (n - suc j) (n - suc i) ∙ delta_other (n - suc i) (n - suc j) (omega arith)

width : (n v : ℕ) → v < 2 ^ n → v < 2 ^ (1 * n)
width n v h = subst (λ (x : ℕ). v < 2 ^ x) (sym (one-mul n)) h

pub bit_ext : (n a b : ℕ) → a < 2 ^ n → b < 2 ^ n → ((i : ℕ) → i < n → bit n i a ≡ bit n i b) → a ≡ b
bit_ext n a b ha hb e = group_ext 1 n a b (width n a ha) (width n b hb) e

-- ---- vectors by their bits
pub vector_lt : (n : ℕ) (f : ℕ → ℕ) → ((i : ℕ) → i < n → f i < 2) → vector n f < 2 ^ n
vector_lt n f h = subst (λ (x : ℕ). vector n f < 2 ^ x) (one-mul n) (joined_lt 1 n f h)

pub bit_vector : (n : ℕ) (f : ℕ → ℕ) → ((i : ℕ) → i < n → f i < 2) → (i : ℕ) → i < n → bit n i (vector n f) ≡ f i
bit_vector n f h i l = group_joined 1 n f h i l
