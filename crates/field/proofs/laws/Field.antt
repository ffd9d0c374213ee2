-- Laws, not definitions: of the product in the field. Each law is linear in each argument, so it is tested at powers of x alone.
-- Assumes nothing.
use mathlib.Core.Path.{◌≡◌, refl, sym, ap, ap₂, ◌∙◌}
use mathlib.Core.Bool.{Bool, true, false, cond}
use Prim.Native.Nat.{ℕ, zero, suc, ◌+◌, ◌*◌, ◌/◌, ◌%◌, ◌^◌, ◌<◌}
use native.Mathlib.Omega.{arith}
use native.Mathlib.Nat.{mod-lt}
use lib.Dec.{T, eqb, ltb, eqb→eq, lit<}
use lib.Bits.{bit_xor, xor_lt, xor_zero_r, xor_self, xor_mod, xor_shr, xor_block}
use borrow.Author.Tests.{ltb-true, ltb-false}
use Rattle.bits.proofs.laws.Checked.{all, all_at}
use Rattle.bits.proofs.laws.Xor.{two, odd_lt, xor_odd, xor_half, xor_four, cond_xor}
use Rattle.field.specs.Field.{xtime, times, mul}
use Rattle.field.specs.Theorems.{Closed, Commutative, Associative, OneNeutral, Distributive}
use Rattle.field.proofs.laws.OnBytes.{OnBytes, same}

pub xtime_lt : (a : ℕ) → a < 256 → xtime a < 256
unfolding xtime
xtime_lt a h = go (ltb a 128) refl
  where
    go : (b : Bool) → ltb a 128 ≡ b → cond b (a * 2) (bit_xor (a * 2 % 256) 0x1b) < 256
    go true e = omega (arith, ltb-true a 128 e)
    go false e = xor_lt 8 (a * 2 % 256) 0x1b (mod-lt (a * 2) (lit< tt)) (lit< tt)

-- A bit's share of a product.
share : ℕ → ℕ → ℕ
share a d = cond (eqb d 1) a 0

share_xor : (a x y : ℕ) → x < 2 → y < 2 → share a ((x + y) % 2) ≡ bit_xor (share a x) (share a y)
unfolding share
share_xor a x y hx hy =
    two (λ p. share a ((p + y) % 2) ≡ bit_xor (share a p) (share a y))
    (two (λ q. share a ((0 + q) % 2) ≡ bit_xor 0 (share a q)) refl refl y hy)
    (two (λ q. share a ((1 + q) % 2) ≡ bit_xor a (share a q)) (sym (xor_zero_r a)) (sym (xor_self a)) y hy) x hx

times_xor : (k a x y : ℕ) → times k a (bit_xor x y) ≡ bit_xor (times k a x) (times k a y)
unfolding times share
times_xor zero a x y = refl
times_xor (suc k) a x y =
    ap₂ bit_xor
    (ap (share a) (xor_odd x y) ∙ share_xor a (x % 2) (y % 2) (odd_lt x) (odd_lt y))
    (ap (times k (xtime a)) (xor_half x y) ∙ times_xor k (xtime a) (x / 2) (y / 2))
    ∙ xor_four (share a (x % 2)) (share a (y % 2)) (times k (xtime a) (x / 2)) (times k (xtime a) (y / 2))

pub mul_xor : Distributive
unfolding mul
mul_xor a x y = times_xor 8 a x y

share_lt : (a d : ℕ) → a < 256 → share a d < 256
unfolding share
share_lt a d h = go (eqb d 1)
  where
    go : (b : Bool) → cond b a 0 < 256
    go true = h
    go false = lit< tt

times_lt : (k a x : ℕ) → a < 256 → times k a x < 256
unfolding times share
times_lt zero a x h = lit< tt
times_lt (suc k) a x h = xor_lt 8 (share a (x % 2)) (times k (xtime a) (x / 2)) (share_lt a (x % 2) h) (times_lt k (xtime a) (x / 2) (xtime_lt a h))

pub mul_lt : Closed
unfolding mul
mul_lt a x h = times_lt 8 a x h

-- ---- XTIMES is linear.
double_xor : (u v : ℕ) → bit_xor u v * 2 ≡ bit_xor (u * 2) (v * 2)
double_xor u v =
    let e : (z : ℕ) → z * 2 + 0 ≡ z * 2 = λ z. omega arith in
    sym (e (bit_xor u v)) ∙ sym (xor_block 1 u v 0 0 (lit< tt) (lit< tt)) ∙ ap₂ bit_xor (e u) (e v)

carry : ℕ → ℕ
carry d = cond (eqb d 1) 0x1b 0

carry_xor : (p q : ℕ) → p < 2 → q < 2 → carry (bit_xor p q) ≡ bit_xor (carry p) (carry q)
unfolding carry
carry_xor p q hp hq =
    two (λ x. carry (bit_xor x q) ≡ bit_xor (carry x) (carry q))
    (two (λ y. carry (bit_xor 0 y) ≡ bit_xor (carry 0) (carry y)) refl refl q hq)
    (two (λ y. carry (bit_xor 1 y) ≡ bit_xor (carry 1) (carry y)) refl refl q hq) p hp

xtime_is : (a : ℕ) → a < 256 → xtime a ≡ bit_xor (a % 128 * 2) (carry (a / 128))
unfolding xtime carry
xtime_is a h = go (ltb a 128) refl
  where
    go : (b : Bool) → ltb a 128 ≡ b → cond b (a * 2) (bit_xor (a * 2 % 256) 0x1b) ≡ bit_xor (a % 128 * 2) (cond (eqb (a / 128) 1) 0x1b 0)
    go true e =
        let l = ltb-true a 128 e in
        let m : a % 128 * 2 ≡ a * 2 = omega arith in
        let d : a / 128 ≡ 0 = omega arith in
        sym (ap₂ (λ (x y : ℕ). bit_xor x (cond (eqb y 1) 0x1b 0)) m d ∙ xor_zero_r (a * 2))
    go false e =
        let l = ltb-false a 128 e in
        let m : a % 128 * 2 ≡ a * 2 % 256 = omega arith in
        let d : a / 128 ≡ 1 = omega arith in
        sym (ap₂ (λ (x y : ℕ). bit_xor x (cond (eqb y 1) 0x1b 0)) m d)

pub xtime_xor : OnBytes xtime
xtime_xor a b ha hb =
    let p : a / 128 < 2 = omega arith in
    let q : b / 128 < 2 = omega arith in
    xtime_is (bit_xor a b) (xor_lt 8 a b ha hb)
    ∙ ap₂ bit_xor (ap (λ (z : ℕ). z * 2) (xor_mod a b 7) ∙ double_xor (a % 128) (b % 128)) (ap carry (xor_shr a b 7) ∙ carry_xor (a / 128) (b / 128) p q)
    ∙ xor_four (a % 128 * 2) (b % 128 * 2) (carry (a / 128)) (carry (b / 128))
    ∙ sym (ap₂ bit_xor (xtime_is a ha) (xtime_is b hb))

-- ---- The product is linear on the left.
times_left : (k a b x : ℕ) → a < 256 → b < 256 → times k (bit_xor a b) x ≡ bit_xor (times k a x) (times k b x)
unfolding times
times_left zero a b x ha hb = refl
times_left (suc k) a b x ha hb =
    ap₂ bit_xor (cond_xor (eqb (x % 2) 1) a b)
    (ap (λ (z : ℕ). times k z (x / 2)) (xtime_xor a b ha hb) ∙ times_left k (xtime a) (xtime b) (x / 2) (xtime_lt a ha) (xtime_lt b hb))
    ∙ xor_four (cond (eqb (x % 2) 1) a 0) (cond (eqb (x % 2) 1) b 0) (times k (xtime a) (x / 2)) (times k (xtime b) (x / 2))

pub mul_xor_left : (x : ℕ) → OnBytes (λ a. mul a x)
unfolding mul
mul_xor_left x a b ha hb = times_left 8 a b x ha hb

-- ---- Commutative.
swaps : ℕ → ℕ → Bool
swaps i j = eqb (mul (2 ^ i) (2 ^ j)) (mul (2 ^ j) (2 ^ i))

swapped : (i j : ℕ) → i < 8 → j < 8 → T (swaps i j)
unfolding swaps xtime times mul
swapped i j hi hj = all_at 8 (swaps i) (all_at 8 (λ k. all 8 (swaps k)) tt i hi) j hj

pub mul_comm : Commutative
unfolding swaps
mul_comm a b ha hb =
    same (mul a) (λ y. mul y a) (λ x y hx hy. mul_xor a x y) (mul_xor_left a)
    (λ j hj.
    same (λ x. mul x (2 ^ j)) (mul (2 ^ j)) (mul_xor_left (2 ^ j)) (λ x y hx hy. mul_xor (2 ^ j) x y)
    (λ i hi. eqb→eq (mul (2 ^ i) (2 ^ j)) (mul (2 ^ j) (2 ^ i)) (swapped i j hi hj)) a ha) b hb

-- ---- Associative: powers of x go in and out of a product.
doubles : ℕ → ℕ → ℕ
doubles zero a = a
doubles (suc k) a = xtime (doubles k a)

doubles_lt : (k a : ℕ) → a < 256 → doubles k a < 256
unfolding doubles
doubles_lt zero a h = h
doubles_lt (suc k) a h = xtime_lt (doubles k a) (doubles_lt k a h)

doubles_xor : (k : ℕ) → OnBytes (doubles k)
unfolding doubles
doubles_xor zero a b ha hb = refl
doubles_xor (suc k) a b ha hb = ap xtime (doubles_xor k a b ha hb) ∙ xtime_xor (doubles k a) (doubles k b) (doubles_lt k a ha) (doubles_lt k b hb)

-- By powers: a product with x^j, and x times a product.
powers : ℕ → ℕ → Bool
powers j i = eqb (mul (2 ^ i) (2 ^ j)) (doubles j (2 ^ i))

moves : ℕ → ℕ → Bool
moves i j = eqb (mul (2 ^ i) (xtime (2 ^ j))) (xtime (mul (2 ^ i) (2 ^ j)))

powered : (j i : ℕ) → j < 8 → i < 8 → T (powers j i)
unfolding powers doubles xtime times mul
powered j i hj hi = all_at 8 (powers j) (all_at 8 (λ k. all 8 (powers k)) tt j hj) i hi

moved : (i j : ℕ) → i < 8 → j < 8 → T (moves i j)
unfolding moves xtime times mul
moved i j hi hj = all_at 8 (moves i) (all_at 8 (λ k. all 8 (moves k)) tt i hi) j hj

mul_power : (j a : ℕ) → j < 8 → a < 256 → mul a (2 ^ j) ≡ doubles j a
unfolding powers
mul_power j a hj ha =
    same (λ x. mul x (2 ^ j)) (doubles j) (mul_xor_left (2 ^ j)) (doubles_xor j)
    (λ i hi. eqb→eq (mul (2 ^ i) (2 ^ j)) (doubles j (2 ^ i)) (powered j i hj hi)) a ha

mul_xtime : (a b : ℕ) → a < 256 → b < 256 → mul a (xtime b) ≡ xtime (mul a b)
unfolding moves
mul_xtime a b ha hb =
    same (λ y. mul a (xtime y)) (λ y. xtime (mul a y))
    (λ x y hx hy. ap (mul a) (xtime_xor x y hx hy) ∙ mul_xor a (xtime x) (xtime y))
    (λ x y hx hy. ap xtime (mul_xor a x y) ∙ xtime_xor (mul a x) (mul a y) (mul_lt a x ha) (mul_lt a y ha))
    (λ j hj.
    same (λ x. mul x (xtime (2 ^ j))) (λ x. xtime (mul x (2 ^ j))) (mul_xor_left (xtime (2 ^ j)))
    (λ x y hx hy. ap xtime (mul_xor_left (2 ^ j) x y hx hy) ∙ xtime_xor (mul x (2 ^ j)) (mul y (2 ^ j)) (mul_lt x (2 ^ j) hx) (mul_lt y (2 ^ j) hy))
    (λ i hi. eqb→eq (mul (2 ^ i) (xtime (2 ^ j))) (xtime (mul (2 ^ i) (2 ^ j))) (moved i j hi hj)) a ha) b hb

mul_doubles : (k a b : ℕ) → a < 256 → b < 256 → mul a (doubles k b) ≡ doubles k (mul a b)
unfolding doubles
mul_doubles zero a b ha hb = refl
mul_doubles (suc k) a b ha hb = mul_xtime a (doubles k b) ha (doubles_lt k b hb) ∙ ap xtime (mul_doubles k a b ha hb)

pub mul_assoc : Associative
mul_assoc a b c ha hb hc =
    same (mul (mul a b)) (λ x. mul a (mul b x)) (λ x y hx hy. mul_xor (mul a b) x y)
    (λ x y hx hy. ap (mul a) (mul_xor b x y) ∙ mul_xor a (mul b x) (mul b y))
    (λ j hj. mul_power j (mul a b) hj (mul_lt a b ha) ∙ sym (mul_doubles j a b ha hb) ∙ ap (mul a) (sym (mul_power j b hj hb))) c hc

pub mul_one : OneNeutral
unfolding doubles
mul_one a h = mul_power 0 a (lit< tt) h
