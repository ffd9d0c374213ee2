-- Laws, not definitions: of xor and and that lib.Bits lacks, and of functions that are linear over xor.
-- Assumes nothing.
use mathlib.Core.Path.{◌≡◌, refl, sym, ap, ap₂, ◌∙◌}
use Prim.Native.Nat.{ℕ, zero, suc, ◌+◌, ◌-◌, ◌*◌, ◌/◌, ◌%◌, ◌^◌, ◌<◌, min}
use native.Mathlib.Decide.{dec_lt}
use native.Mathlib.Nat.{mod-lt, zero-lt-suc, pow-suc, mod-add-mod, add-mod-mod, add_assoc}
use native.Mathlib.Omega.{arith}
use lib.Arith.{bin_ind, lt-one}
use lib.Bits.{bit_and, bit_xor, and_step, xor_add_and, xor_shr, and_shr, xor_self, xor_zero_r, xor_shifted, xor_comm, and_le_l, and_le_r}
use lib.Count.{ones, ones_step}
use mathlib.Core.Bool.{Bool, true, false, cond}

-- A number below 2 is 0 or 1.
pub two {ℓ} : (P : ℕ → Type ℓ) → P 0 → P 1 → (x : ℕ) → x < 2 → P x
two P p q zero h = p
two P p q (suc zero) h = q
two P p q (suc (suc x)) h = absurd (omega arith)

pub odd_lt : (a : ℕ) → a % 2 < 2
odd_lt a = mod-lt a (zero-lt-suc 1)

-- ---- the lowest bit and the rest
pub xor_odd : (a b : ℕ) → bit_xor a b % 2 ≡ (a % 2 + b % 2) % 2
xor_odd a b = omega (arith, xor_add_and a b)

pub xor_half : (a b : ℕ) → bit_xor a b / 2 ≡ bit_xor (a / 2) (b / 2)
xor_half a b = xor_shr a b 1

and_half : (a b : ℕ) → bit_and a b / 2 ≡ bit_and (a / 2) (b / 2)
and_half a b = and_shr a b 1

pub and_least : (a b : ℕ) → bit_and a b % 2 ≡ min (a % 2) (b % 2)
and_least a b = omega (arith, and_step a b)

and_odd : (a b : ℕ) → bit_and a b % 2 ≡ a % 2 * (b % 2)
and_odd a b =
    and_least a b ∙ two (λ x. min x (b % 2) ≡ x * (b % 2)) (omega arith) (omega (arith, odd_lt b)) (a % 2) (odd_lt a)

same : (a b : ℕ) → a / 2 ≡ b / 2 → a % 2 ≡ b % 2 → a ≡ b
same a b p q = omega arith

-- ---- sums modulo 2
sum_assoc : (x y z : ℕ) → ((x + y) % 2 + z) % 2 ≡ (x + (y + z) % 2) % 2
sum_assoc x y z = mod-add-mod (x + y) 2 z ∙ ap (λ (t : ℕ). t % 2) (add_assoc x y z) ∙ sym (add-mod-mod x (y + z) 2)

pub sum_both : (x y : ℕ) → (x % 2 + y % 2) % 2 ≡ (x + y) % 2
sum_both x y = mod-add-mod x 2 (y % 2) ∙ add-mod-mod x y 2

sum_four : (p q a b x : ℕ) → x % 2 ≡ (a % 2 + b % 2) % 2 → ((p + q) % 2 + x) % 2 ≡ ((p + a) % 2 + (q + b) % 2) % 2
sum_four p q a b x e =
    mod-add-mod (p + q) 2 x
    ∙ sym (add-mod-mod (p + q) x 2)
    ∙ ap (λ (t : ℕ). (p + q + t) % 2) (e ∙ sum_both a b)
    ∙ add-mod-mod (p + q) (a + b) 2
    ∙ ap (λ (t : ℕ). t % 2) (omega arith)
    ∙ sym (sum_both (p + a) (q + b))

-- ---- xor
pub xor_assoc : (a b c : ℕ) → bit_xor (bit_xor a b) c ≡ bit_xor a (bit_xor b c)
xor_assoc =
    bin_ind (λ n. (b c : ℕ) → bit_xor (bit_xor n b) c ≡ bit_xor n (bit_xor b c)) (λ b c. refl)
    (λ n ih b c.
    same _ _ (rw (xor_half (bit_xor n b) c, xor_half n b, xor_half n (bit_xor b c), xor_half b c) (ih (b / 2) (c / 2)))
    (xor_odd (bit_xor n b) c ∙ ap (λ (z : ℕ). (z + c % 2) % 2) (xor_odd n b) ∙ sum_assoc (n % 2) (b % 2) (c % 2)
    ∙ sym (xor_odd n (bit_xor b c) ∙ ap (λ (z : ℕ). (n % 2 + z) % 2) (xor_odd b c))))

pub xor_zero_eq : (a b : ℕ) → bit_xor a b ≡ 0 → a ≡ b
xor_zero_eq a b e = omega (arith, xor_add_and a b, and_le_l a b, and_le_r a b)

pub xor_back : (a b : ℕ) → bit_xor (bit_xor a b) b ≡ a
xor_back a b = xor_assoc a b b ∙ ap (bit_xor a) (xor_self b) ∙ xor_zero_r a

-- What changes nothing is 0, and what is changed alike was alike.
pub xor_none : (a b : ℕ) → bit_xor a b ≡ a → b ≡ 0
xor_none a b e = sym (xor_back b a) ∙ ap (λ (x : ℕ). bit_xor x a) (xor_comm b a ∙ e) ∙ xor_self a

pub xor_apart : (a b k : ℕ) → bit_xor a k ≡ bit_xor b k → a ≡ b
xor_apart a b k e = sym (xor_back a k) ∙ ap (λ (x : ℕ). bit_xor x k) e ∙ xor_back b k

pub xor_four : (p q r s : ℕ) → bit_xor (bit_xor p q) (bit_xor r s) ≡ bit_xor (bit_xor p r) (bit_xor q s)
xor_four p q r s =
    xor_assoc p q (bit_xor r s)
    ∙ ap (bit_xor p) (sym (xor_assoc q r s) ∙ ap (λ (z : ℕ). bit_xor z s) (xor_comm q r) ∙ xor_assoc r q s)
    ∙ sym (xor_assoc p r (bit_xor q s))

-- ---- and distributes over xor
bits_distr : (a b c : ℕ) → a < 2 → a * ((b % 2 + c % 2) % 2) ≡ (a * (b % 2) + a * (c % 2)) % 2
bits_distr a b c h = two (λ x. x * ((b % 2 + c % 2) % 2) ≡ (x * (b % 2) + x * (c % 2)) % 2) (omega arith) (omega arith) a h

pub and_xor : (r x y : ℕ) → bit_and r (bit_xor x y) ≡ bit_xor (bit_and r x) (bit_and r y)
and_xor =
    bin_ind (λ n. (x y : ℕ) → bit_and n (bit_xor x y) ≡ bit_xor (bit_and n x) (bit_and n y)) (λ x y. refl)
    (λ n ih x y.
    same _ _
    (rw (and_half n (bit_xor x y), xor_half x y, xor_half (bit_and n x) (bit_and n y), and_half n x, and_half n y) (ih (x / 2) (y / 2)))
    (and_odd n (bit_xor x y) ∙ ap (λ (z : ℕ). n % 2 * z) (xor_odd x y) ∙ bits_distr (n % 2) x y (odd_lt n)
    ∙ sym (xor_odd (bit_and n x) (bit_and n y) ∙ ap₂ (λ (u v : ℕ). (u + v) % 2) (and_odd n x) (and_odd n y))))

-- The parity of the ones of an xor.
pub ones_xor : (a b : ℕ) → ones (bit_xor a b) % 2 ≡ (ones a % 2 + ones b % 2) % 2
unfolding ones
ones_xor =
    bin_ind (λ n. (b : ℕ) → ones (bit_xor n b) % 2 ≡ (ones n % 2 + ones b % 2) % 2) (λ b. omega arith)
    (λ n ih b.
    ap (λ (t : ℕ). t % 2) (ones_step (bit_xor n b) ∙ ap₂ (λ (x y : ℕ). x + ones y) (xor_odd n b) (xor_half n b))
    ∙ sum_four (n % 2) (b % 2) (ones (n / 2)) (ones (b / 2)) (ones (bit_xor (n / 2) (b / 2))) (ih (b / 2))
    ∙ sym (ap₂ (λ (x y : ℕ). (x % 2 + y % 2) % 2) (ones_step n) (ones_step b)))

-- ---- functions that are linear over xor
abbrev pub Linear : (ℕ → ℕ) → Type 0
Linear f = (x y : ℕ) → f (bit_xor x y) ≡ bit_xor (f x) (f y)

-- A linear function that is 0 at each power of 2 below 2 ^ k is 0 at each number below 2 ^ k.
null : (f : ℕ → ℕ) → Linear f → (k : ℕ) → ((j : ℕ) → j < k → f (2 ^ j) ≡ 0) → (x : ℕ) → x < 2 ^ k → f x ≡ 0
null f lin zero b x h = ap f (lt-one h) ∙ lin 0 0 ∙ xor_self (f 0)
null f lin (suc k) b x h = go (λ y l. null f lin k (λ j p. b j (omega arith)) y l) (dec_lt x (2 ^ k))
  where
    go : ((y : ℕ) → y < 2 ^ k → f y ≡ 0) → Dec (x < 2 ^ k) → f x ≡ 0
    go ih (yes l) = ih x l
    go ih (no l) =
        let e = pow-suc 2 k in
        let r : x - 2 ^ k < 2 ^ k = omega arith in
        let s = xor_shifted 1 k (x - 2 ^ k) r in
        let t : bit_xor (1 * 2 ^ k) (x - 2 ^ k) ≡ x = s ∙ omega arith in
        let u : 1 * 2 ^ k ≡ 2 ^ k = omega arith in
        ap f (sym t ∙ ap (λ (z : ℕ). bit_xor z (x - 2 ^ k)) u)
        ∙ lin (2 ^ k) (x - 2 ^ k)
        ∙ ap₂ bit_xor (b k (omega arith)) (ih (x - 2 ^ k) r)

-- Two linear functions that agree at the powers of 2 agree.
pub agree : (f g : ℕ → ℕ) → Linear f → Linear g → (k : ℕ) → ((j : ℕ) → j < k → f (2 ^ j) ≡ g (2 ^ j)) → (x : ℕ) → x < 2 ^ k → f x ≡ g x
agree f g lf lg k b x h =
    xor_zero_eq (f x) (g x)
    (null (λ y. bit_xor (f y) (g y)) (λ y z. ap₂ bit_xor (lf y z) (lg y z) ∙ xor_four (f y) (f z) (g y) (g z)) k
    (λ j p. ap (λ (z : ℕ). bit_xor z (g (2 ^ j))) (b j p) ∙ xor_self (g (2 ^ j))) x h)

-- ---- a number by a test, or 0
pub cond_lt : (b : Bool) (x y : ℕ) → 0 < y → x < y → cond b x 0 < y
cond_lt true x y p h = h
cond_lt false x y p h = p

pub cond_xor : (b : Bool) (x y : ℕ) → cond b (bit_xor x y) 0 ≡ bit_xor (cond b x 0) (cond b y 0)
cond_xor true x y = refl
cond_xor false x y = refl
