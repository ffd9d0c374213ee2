-- Laws, not definitions: the digits of a number, how many hold it, and how they are written from the last on. The fewest in decimal are the number.
-- Assumes nothing.
use mathlib.Core.Bool.{Bool, true, false, cond}
use mathlib.Core.List.{List, [], ◌∷◌, ◌++◌}
use mathlib.Core.Path.{◌≡◌, refl, sym, ap, subst, ◌∙◌}
use Prim.Native.Nat.{ℕ, zero, suc, ◌+◌, ◌-◌, ◌*◌, ◌/◌, ◌%◌, ◌^◌, ◌≤◌, ◌<◌}
use native.Mathlib.Nat.{mod-eq_of_lt, pow-le-pow_right, div-lt_iff_lt-mul, le-div_iff_mul-le, pow-suc, one-le-pow, div-div-eq-div-mul}
use native.Mathlib.Nat.{not-suc-le-zero}
use native.Mathlib.Numerals.{unary_clauses, add-one, sub-one}
use native.Mathlib.Omega.{arith}
use lib.Dec.{ltb}
use lib.ListN.{length, take, drop, set, length-take}
use lib.Seq.{slice, length-take-le, take-set-lt, append_snoc}
use Rattle.std.proofs.lemmas.List.{drop-set}
use borrow.Author.Tests.{ltb-true, ltb-false}
use Rattle.streams.specs.Digits.{hex_digit_ascii, last_digits, IsDigitCount}
use Rattle.streams.specs.Lines.{spelled, decimal, number_room}
use Rattle.streams.specs.Written.{Put}

-- ---- the fewest digits
-- Two digits hold 10 at least: the fewest of a number below 10 are one, and of another number more.
ten_below : (k : ℕ) → 10 ≤ 10 ^ suc k
ten_below k = pow-le-pow_right {n = 10} (omega arith) {i = 1} {j = suc k} (omega arith)

one_digit : (n k : ℕ) → n < 10 → IsDigitCount 10 1 n k → last_digits 10 k n ≡ hex_digit_ascii n ∷ []
one_digit n zero h f = absurd (omega (arith, f.0))
one_digit n (suc zero) h f = ap (λ (d : ℕ). hex_digit_ascii d ∷ []) (mod-eq_of_lt h)
one_digit n (suc (suc k)) h f = absurd (omega (arith, simp unary_clauses at (f.2 (omega arith)), ten_below k))

-- All but the last digit of a number of two digits or more are the fewest of a tenth of it.
fewer : (n k : ℕ) → 10 ≤ n → IsDigitCount 10 1 n (suc k) → IsDigitCount 10 1 (n / 10) k
fewer n zero h f = absurd (omega (arith, f.1))
fewer n (suc k) h f = (
  omega arith,
  (div-lt_iff_lt-mul {k = 10} (omega arith)).1 (rw pow-suc at f.1),
  λ l. (le-div_iff_mul-le {k = 10} (omega arith)).1 (simp unary_clauses (simp unary_clauses at (f.2 (omega arith)))),
)

step : (most n k : ℕ) (b : Bool) → ltb n 10 ≡ b → IsDigitCount 10 1 n (suc k)
    → (10 ≤ n → IsDigitCount 10 1 (n / 10) k → last_digits 10 k (n / 10) ≡ spelled most (n / 10))
    → last_digits 10 (suc k) n ≡ cond b (hex_digit_ascii n ∷ []) (spelled most (n / 10) ++ (hex_digit_ascii (n % 10) ∷ []))
step most n k true e f again = one_digit n (suc k) (ltb-true n 10 e) f
step most n k false e f again =
    let h : 10 ≤ n = ltb-false n 10 e in
    ap (λ (l : List ℕ). l ++ (hex_digit_ascii (n % 10) ∷ [])) (again h (fewer n k h f))

spelled_digits : (most n k : ℕ) → n < most → IsDigitCount 10 1 n k → last_digits 10 k n ≡ spelled most n
unfolding spelled
spelled_digits zero n k h f = absurd (omega arith)
spelled_digits (suc most) n zero h f = absurd (omega (arith, f.0))
spelled_digits (suc most) n (suc k) h f = step most n k (ltb n 10) refl f (λ g t. spelled_digits most (n / 10) k (omega arith) t)

decimal_digits : (n k : ℕ) → IsDigitCount 10 1 n k → last_digits 10 k n ≡ decimal n
unfolding decimal
decimal_digits n k f = spelled_digits (suc n) n k (omega arith) f

-- The fewest are no more than any that hold the number.
digits_most : (base least most n k : ℕ) → 1 < base → least ≤ most → n < base ^ most → IsDigitCount base least n k → k ≤ most
digits_most base least most n k b l h f = by (ltb most k) refl
  where
    by : (t : Bool) → ltb most k ≡ t → k ≤ most
    by false e = ltb-false most k e
    by true e =
        let more : most < k = ltb-true most k e in
        absurd (omega (arith, f.2 (omega arith), pow-le-pow_right {n = base} (omega arith) {i = most} {j = k - 1} (omega arith)))

-- Of a number of 32 bits at most ten in decimal.
pub few_digits : (n k : ℕ) → n < 2 ^ 32 → IsDigitCount 10 1 n k → k ≤ number_room
few_digits n k h f = digits_most 10 1 number_room n k (omega arith) (omega arith) (omega arith) f

-- ---- how many there are: what is left of n is `rest` once k digits are taken from its end
pub tenth_more : (n k rest : ℕ) → rest ≡ n / 10 ^ k → rest / 10 ≡ n / 10 ^ (k + 1)
tenth_more n k rest e =
    ap (λ (m : ℕ). m / 10) e ∙ div-div-eq-div-mul n (10 ^ k) 10 ∙ ap (λ (d : ℕ). n / d) (sym (pow-suc 10 k) ∙ ap (λ (j : ℕ). 10 ^ j) (sym (add-one k)))

-- Something is left, so one more is wanted.
pub more_digits : (n k rest : ℕ) → rest ≡ n / 10 ^ k → 0 < rest → 10 ^ (k + 1 - 1) ≤ n
more_digits n k rest e some =
    let j : k ≡ k + 1 - 1 = omega arith in
    let h : 1 * 10 ^ k ≤ n = (le-div_iff_mul-le (one-le-pow k 10 (omega arith))).0 (omega (arith, e)) in
    subst (λ (i : ℕ). 10 ^ i ≤ n) j (omega arith)

-- Nothing is left, so they hold n.
pub digits_hold : (n k rest : ℕ) → rest ≡ n / 10 ^ k → rest ≤ 0 → n < 10 ^ k
digits_hold n k rest e none =
    let h : n < 1 * 10 ^ k = (div-lt_iff_lt-mul (one-le-pow k 10 (omega arith))).0 (omega (arith, e)) in
    omega arith

-- ---- how they are written, from the last on
-- The last of the digits that are still to write goes to the front of those that are written.
pub digits_more : (b i k rest g : ℕ) (out : List ℕ) → 0 < i → i ≤ k → k ≤ length out → g ≡ hex_digit_ascii (rest % b)
    → last_digits b (i - 1) (rest / b) ++ slice (i - 1) k (set out (i - 1) g) ≡ last_digits b i rest ++ slice i k out
digits_more b zero k rest g out some h room e = absurd (not-suc-le-zero some)
digits_more b (suc j) k rest g out some h room e =
    let todo = last_digits b j (rest / b) in
    let done = slice (suc j) k out in
    let within : j < length (take k out) = subst (λ (n : ℕ). j < n) (sym (length-take-le k out room)) h in
    ap (λ (m : ℕ). last_digits b m (rest / b) ++ slice m k (set out m g)) (sub-one (suc j))
    ∙ ap (λ (l : List ℕ). todo ++ drop j l) (take-set-lt k out j g h)
    ∙ ap (λ (l : List ℕ). todo ++ l) (rw (← add-one j) (drop-set (take k out) j g within))
    ∙ ap (λ (x : ℕ). todo ++ x ∷ done) e
    ∙ sym (append_snoc todo (hex_digit_ascii (rest % b)) done)

-- ---- the number that is put: the front of the array of digits
pub number_put : (n k : ℕ) (out : List ℕ) {held : List ℕ} {from end : ℕ} {left : List ℕ}
    → IsDigitCount 10 1 n k → take k out ≡ last_digits 10 k n → k ≤ number_room → Put (take k out) held from end left
    → Put (decimal n) held from end left × (length (decimal n) ≤ number_room)
number_put n k out f e l p =
    let d : take k out ≡ decimal n = e ∙ decimal_digits n k f in
    (rw d at p, omega (arith, ap length d, length-take k out))
