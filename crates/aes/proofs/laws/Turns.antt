-- Laws, not definitions: of the loop over the rounds, forwards and backwards: its invariant, and what its start, a turn and the lines behind it come
-- to, from what each call ensures.
-- Assumes nothing.
use mathlib.Core.Path.{◌≡◌, refl, ap, ◌∙◌}
use mathlib.Core.List.{List}
use Prim.Native.Nat.{ℕ, suc, ◌+◌, ◌-◌, ◌≤◌, ◌<◌}
use native.Mathlib.Omega.{arith}
use Rattle.round.specs.State.{SubBytes, ShiftRows, MixColumns, AddRoundKey, InvSubBytes, InvShiftRows, InvMixColumns}
use Rattle.round.specs.Key.{key_of}
use Rattle.aes.specs.Cipher.{rounds, Cipher, inv_rounds, InvCipher}

-- ---- The cipher: t is u behind the rounds before round n.
pub record Rounded (nr : ℕ) (w u t : List ℕ) (n : ℕ) : Type 0 where
  pub some : 1 ≤ n
  pub within : n - 1 ≤ nr - 1
  pub same : t ≡ rounds w (n - 1) u

pub rounded_none : (nr : ℕ) (w u : List ℕ) → Rounded nr w u u 1
unfolding rounds
rounded_none nr w u = record { some = omega arith; within = omega arith; same = refl }

-- Round n, behind the r before it.
one_round : (w u t : List ℕ) (r n : ℕ) {a b m x : List ℕ} → n ≡ suc r → t ≡ rounds w r u → a ≡ SubBytes t → b ≡ ShiftRows a → m ≡ MixColumns b
    → x ≡ AddRoundKey m (key_of w n) → x ≡ rounds w n u
unfolding rounds
one_round w u t r n e same f g i j = cc

pub rounded_more : {nr : ℕ} {w u t : List ℕ} {n : ℕ} {a b m x : List ℕ} → Rounded nr w u t n → n < nr → a ≡ SubBytes t → b ≡ ShiftRows a → m ≡ MixColumns b
    → x ≡ AddRoundKey m (key_of w n) → Rounded nr w u x (n + 1)
rounded_more {w = w} {u = u} {t = t} {n = n} R h f g i j =
    let some = R.some in
    record {
      some = omega arith;
      within = omega arith;
      same = one_round w u t (n - 1) n (omega arith) R.same f g i j ∙ ap (λ (r : ℕ). rounds w r u) (let e : n ≡ n + 1 - 1 = omega arith in e);
    }

pub rounded_all : (nr : ℕ) (w s : List ℕ) {u t : List ℕ} {n : ℕ} {a b x : List ℕ} → u ≡ AddRoundKey s (key_of w 0) → Rounded nr w u t n → nr ≤ n
    → a ≡ SubBytes t → b ≡ ShiftRows a → x ≡ AddRoundKey b (key_of w nr) → x ≡ Cipher nr w s
unfolding Cipher
rounded_all nr w s {n = n} d R l f g h =
    let e = R.same in
    let z : n - 1 ≡ nr - 1 = omega (arith, R.within) in
    cc

-- ---- The inverse cipher: t is u behind the rounds nr - 1 down to n.
pub record InvRounded (nr : ℕ) (w u t : List ℕ) (n : ℕ) : Type 0 where
  pub within : nr - n ≤ nr - 1
  pub inside : n ≤ nr
  pub same : t ≡ inv_rounds nr w (nr - n) u

pub inv_rounded_none : (nr : ℕ) (w u : List ℕ) → InvRounded nr w u u nr
unfolding inv_rounds
inv_rounded_none nr w u =
    record { within = omega arith; inside = omega arith; same = ap (λ (r : ℕ). inv_rounds nr w r u) (let e : 0 ≡ nr - nr = omega arith in e) }

-- One more round: behind r others it is round n.
one_more : (nr : ℕ) (w u t : List ℕ) (r n : ℕ) {a b k x : List ℕ} → nr - suc r ≡ n → t ≡ inv_rounds nr w r u → a ≡ InvShiftRows t → b ≡ InvSubBytes a
    → k ≡ AddRoundKey b (key_of w n) → x ≡ InvMixColumns k → x ≡ inv_rounds nr w (suc r) u
unfolding inv_rounds
one_more nr w u t r n e same f g h i = cc

pub inv_rounded_more : {nr : ℕ} {w u t : List ℕ} {n : ℕ} {a b k x : List ℕ} → InvRounded nr w u t n → 1 < n → a ≡ InvShiftRows t → b ≡ InvSubBytes a
    → k ≡ AddRoundKey b (key_of w (n - 1)) → x ≡ InvMixColumns k → InvRounded nr w u x (n - 1)
inv_rounded_more {nr = nr} {w = w} {u = u} {t = t} {n = n} R l f g h i =
    let inside = R.inside in
    record {
      within = omega arith;
      inside = omega arith;
      same =
          one_more nr w u t (nr - n) (n - 1) (omega arith) R.same f g h i
          ∙ ap (λ (r : ℕ). inv_rounds nr w r u) (let e : suc (nr - n) ≡ nr - (n - 1) = omega arith in e);
    }

pub inv_rounded_all : (nr : ℕ) (w s : List ℕ) {u t : List ℕ} {n : ℕ} {a b x : List ℕ} → u ≡ AddRoundKey s (key_of w nr) → InvRounded nr w u t n → n ≤ 1
    → a ≡ InvShiftRows t → b ≡ InvSubBytes a → x ≡ AddRoundKey b (key_of w 0) → x ≡ InvCipher nr w s
unfolding InvCipher
inv_rounded_all nr w s {n = n} d R l f g h =
    let e = R.same in
    let z : nr - n ≡ nr - 1 = omega (arith, R.within) in
    cc
