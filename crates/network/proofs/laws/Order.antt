-- Laws, not definitions: the arithmetic of places and of the order of lookups, over any width.
-- Assumes nothing.
use mathlib.Core.Path.{◌≡◌, refl, sym, ap, ap₂, ◌∙◌, subst}
use mathlib.Core.Bool.{Bool, true, false, cond}
use mathlib.Core.Logic.{⊎_elim, ◌⊎◌, inl, inr}
use Prim.Native.Nat.{ℕ, suc, ◌+◌, ◌-◌, ◌*◌, ◌/◌, ◌%◌, ◌≤◌, ◌<◌, min}
use native.Mathlib.Nat.{mul-add-div_right, mul-add-mod_self_right, div-eq_of_lt, mod-eq_of_lt, add-zero, div-add-mod', mod-lt, zero-div, zero-mod}
use native.Mathlib.Nat.{mul-le-mul_right, div-lt_iff_lt-mul, le-div_iff_mul-le, mul-le-mul}
use native.Mathlib.Decide.{ℕ_discrete, dec_lt}
use native.Mathlib.Omega.{arith}
use lib.Dec.{eqb}
use borrow.Author.Tests.{eq-eqb, ne_eqb}
use Rattle.network.specs.Order.{GoodWidth, xors, layer_lookups, nibble_of, turn_of, group_of, added_of, sum_of, place, sum_place, added}

pub at_div : (n w h : ℕ) → h < n → (w * n + h) / n ≡ w
at_div n w h b = mul-add-div_right {m = n} (omega arith) w h ∙ ap (λ (x : ℕ). w + x) (div-eq_of_lt b) ∙ add-zero w

pub at_mod : (n w h : ℕ) → h < n → (w * n + h) % n ≡ h
at_mod n w h b = mul-add-mod_self_right w n h ∙ mod-eq_of_lt b

-- the quotient and the remainder of the next number
pub next_div_mod : (n x : ℕ) → 0 < n
    → ((suc (x % n) < n) × (suc x / n ≡ x / n) × (suc x % n ≡ suc (x % n))) ⊎ ((suc (x % n) ≡ n) × (suc x / n ≡ suc (x / n)) × (suc x % n ≡ 0))
next_div_mod n x pos = go (dec_lt (suc (x % n)) n)
  where
    e : x / n * n + x % n ≡ x
    e = div-add-mod' x n

    go : Dec (suc (x % n) < n)
        → ((suc (x % n) < n) × (suc x / n ≡ x / n) × (suc x % n ≡ suc (x % n))) ⊎ ((suc (x % n) ≡ n) × (suc x / n ≡ suc (x / n)) × (suc x % n ≡ 0))
    go (yes b) =
        let f : suc x ≡ x / n * n + suc (x % n) = omega (arith, e) in
        inl (b, ap (λ (y : ℕ). y / n) f ∙ at_div n (x / n) (suc (x % n)) b, ap (λ (y : ℕ). y % n) f ∙ at_mod n (x / n) (suc (x % n)) b)
    go (no b) =
        let l : x % n < n = mod-lt x pos in
        let f : suc x ≡ suc (x / n) * n + 0 = omega (arith, e) in
        inr (omega arith, ap (λ (y : ℕ). y / n) f ∙ at_div n (suc (x / n)) 0 pos, ap (λ (y : ℕ). y % n) f ∙ at_mod n (suc (x / n)) 0 pos)

-- ---- how many words were added to a nibble, as numbers: R turns complete, H nibbles of the next made, c groups of r turns before
count : ℕ → ℕ → ℕ → ℕ → ℕ → ℕ
count r R H c h = min r (R + min 1 (H - h) - c * r)

-- a group whose turns are all made, and one that has not begun
count_past : (r R H c h : ℕ) → suc c * r ≤ R → count r R H c h ≡ r
unfolding count
count_past r R H c h l = omega arith

count_ahead : (r R H c h : ℕ) → R + min 1 (H - h) ≤ c * r → count r R H c h ≡ 0
unfolding count
count_ahead r R H c h l = omega arith

module _ (r c d : ℕ) (hd : d < r) where
  count_here : (H : ℕ) → count r (c * r + d) H c H ≡ d
  unfolding count
  count_here H = omega arith

  count_more : (H : ℕ) → count r (c * r + d) (suc H) c H ≡ suc d
  unfolding count
  count_more H = omega arith

  count_wrap : (h : ℕ) → count r (suc (c * r + d)) 0 c h ≡ suc d
  unfolding count
  count_wrap h = omega arith

  -- another group
  other : (c' : ℕ) → (c' ≡ c → ⊥) → (suc c' * r ≤ c * r) ⊎ (suc c * r ≤ c' * r)
  other c' ne = go (dec_lt c' c)
    where
      go : Dec (c' < c) → (suc c' * r ≤ c * r) ⊎ (suc c * r ≤ c' * r)
      go (yes l) = inl (mul-le-mul_right r l)
      go (no l) = inr (mul-le-mul_right r (let q : c < c' = omega arith in q))

  count_other_more : (H c' h : ℕ) → (c' ≡ c → ⊥) ⊎ (h ≡ H → ⊥) → count r (c * r + d) (suc H) c' h ≡ count r (c * r + d) H c' h
  unfolding count
  count_other_more H c' h (inl ne) =
      ⊎_elim
      (λ l. count_past r (c * r + d) (suc H) c' h (omega arith) ∙ sym (count_past r (c * r + d) H c' h (omega arith)))
      (λ l. count_ahead r (c * r + d) (suc H) c' h (omega arith) ∙ sym (count_ahead r (c * r + d) H c' h (omega arith)))
      (other c' ne)
  count_other_more H c' h (inr ne) =
      let e : c * r + d + min 1 (suc H - h) ≡ c * r + d + min 1 (H - h) = omega arith in
      ap (λ (x : ℕ). min r (x - c' * r)) e

  count_other_wrap : (H c' h : ℕ) → h ≤ H → (c' ≡ c → ⊥) ⊎ (h ≡ H → ⊥) → count r (suc (c * r + d)) 0 c' h ≡ count r (c * r + d) H c' h
  unfolding count
  count_other_wrap H c' h b (inl ne) =
      ⊎_elim
      (λ l. count_past r (suc (c * r + d)) 0 c' h (omega arith) ∙ sym (count_past r (c * r + d) H c' h (omega arith)))
      (λ l. count_ahead r (suc (c * r + d)) 0 c' h (omega arith) ∙ sym (count_ahead r (c * r + d) H c' h (omega arith)))
      (other c' ne)
  count_other_wrap H c' h b (inr ne) =
      let e : suc (c * r + d) + min 1 (0 - h) ≡ c * r + d + min 1 (H - h) = omega arith in
      ap (λ (x : ℕ). min r (x - c' * r)) e

-- ---- the lookups of a layer
pub layer_lookups_lem : (m : ℕ) → layer_lookups m ≡ 16 + xors m
unfolding layer_lookups
layer_lookups_lem m = omega arith

pub xor_in : (m k : ℕ) → 16 ≤ k → k < layer_lookups m → k - 16 < xors m
xor_in m k a b = omega (arith, layer_lookups_lem m)

-- ---- `added`, at the XOR lookup x that is to be made
module _ (m : ℕ) (good : GoodWidth m) where
  pub added_0 : (w h : ℕ) → added m 0 w h ≡ 0
  unfolding added
  added_0 w h =
      rw (zero-div (2 * m), zero-mod (2 * m))
      (two (eqb (w % m) 0) (let e : min (m - 1) (0 + min 1 (0 - h) - w / m * (m - 1)) ≡ 0 = omega (arith, good) in e))
    where
      two : (b : Bool) {v : ℕ} → v ≡ 0 → cond b v 0 ≡ 0
      two true e = e
      two false e = refl

  pub added_start : (k w h : ℕ) → k ≤ 16 → added m (k - 16) w h ≡ 0
  added_start k w h b = ap (λ (x : ℕ). added m x w h) (let e : k - 16 ≡ 0 = omega (arith, good) in e) ∙ added_0 w h

  -- a word that is not the first of its group
  pub added_not : (x w h : ℕ) → (w % m ≡ 0 → ⊥) → added m x w h ≡ 0
  unfolding added
  added_not x w h ne = rw (ne_eqb (w % m) 0 ne)

  added_first : (x w h : ℕ) → w % m ≡ 0 → added m x w h ≡ count (m - 1) (turn_of m x) (nibble_of m x) (w / m) h
  unfolding added count
  added_first x w h e = rw (eq-eqb (w % m) 0 e)

  pub sum_div : (c : ℕ) → c * m / m ≡ c
  sum_div c = ap (λ (y : ℕ). y / m) (sym (add-zero (c * m))) ∙ at_div m c 0 (omega (arith, good))

  pub sum_mod : (c : ℕ) → c * m % m ≡ 0
  sum_mod c = ap (λ (y : ℕ). y % m) (sym (add-zero (c * m))) ∙ at_mod m c 0 (omega (arith, good))

  turns : (x : ℕ) → turn_of m x ≡ group_of m x * (m - 1) + added_of m x
  turns x = sym (div-add-mod' (turn_of m x) (m - 1))

  pub added_lt : (x : ℕ) → added_of m x < m - 1
  added_lt x = mod-lt (turn_of m x) (omega (arith, good))

  pub nibble_in : (x : ℕ) → nibble_of m x < 2 * m
  nibble_in x = mod-lt x (omega (arith, good))

  pub added_here : (x : ℕ) → added m x (sum_of m x) (nibble_of m x) ≡ added_of m x
  added_here x =
      added_first x (sum_of m x) (nibble_of m x) (sum_mod (group_of m x))
      ∙ ap₂ (λ (R c : ℕ). count (m - 1) R (nibble_of m x) c (nibble_of m x)) (turns x) (sum_div (group_of m x))
      ∙ count_here (m - 1) (group_of m x) (added_of m x) (added_lt x) (nibble_of m x)

  pub added_next : (x : ℕ) → added m (suc x) (sum_of m x) (nibble_of m x) ≡ suc (added_of m x)
  added_next x = added_first (suc x) (sum_of m x) (nibble_of m x) (sum_mod (group_of m x)) ∙ go (next_div_mod (2 * m) x (omega (arith, good)))
    where
      go : ((suc (nibble_of m x) < 2 * m) × (turn_of m (suc x) ≡ turn_of m x) × (nibble_of m (suc x) ≡ suc (nibble_of m x)))
          ⊎ ((suc (nibble_of m x) ≡ 2 * m) × (turn_of m (suc x) ≡ suc (turn_of m x)) × (nibble_of m (suc x) ≡ 0))
          → count (m - 1) (turn_of m (suc x)) (nibble_of m (suc x)) (sum_of m x / m) (nibble_of m x) ≡ suc (added_of m x)
      go (inl p) =
          rw (p.1, p.2, sum_div (group_of m x))
          (ap (λ (R : ℕ). count (m - 1) R (suc (nibble_of m x)) (group_of m x) (nibble_of m x)) (turns x)
          ∙ count_more (m - 1) (group_of m x) (added_of m x) (added_lt x) (nibble_of m x))
      go (inr p) =
          rw (p.1, p.2, sum_div (group_of m x))
          (ap (λ (R : ℕ). count (m - 1) (suc R) 0 (group_of m x) (nibble_of m x)) (turns x)
          ∙ count_wrap (m - 1) (group_of m x) (added_of m x) (added_lt x) (nibble_of m x))

  pub added_other : (x w h : ℕ) → h < 2 * m → (w ≡ sum_of m x → h ≡ nibble_of m x → ⊥) → added m (suc x) w h ≡ added m x w h
  added_other x w h b ne = go (ℕ_discrete (w % m) 0)
    where
      apart : w % m ≡ 0 → Dec (h ≡ nibble_of m x) → (w / m ≡ group_of m x → ⊥) ⊎ (h ≡ nibble_of m x → ⊥)
      apart e (yes q) = inl (λ z. ne (sym (div-add-mod' w m) ∙ ap₂ (λ (a b : ℕ). a * m + b) z e ∙ add-zero (sum_of m x)) q)
      apart e (no q) = inr q

      same : (w / m ≡ group_of m x → ⊥) ⊎ (h ≡ nibble_of m x → ⊥)
          → ((suc (nibble_of m x) < 2 * m) × (turn_of m (suc x) ≡ turn_of m x) × (nibble_of m (suc x) ≡ suc (nibble_of m x)))
          ⊎ ((suc (nibble_of m x) ≡ 2 * m) × (turn_of m (suc x) ≡ suc (turn_of m x)) × (nibble_of m (suc x) ≡ 0))
          → count (m - 1) (turn_of m (suc x)) (nibble_of m (suc x)) (w / m) h ≡ count (m - 1) (turn_of m x) (nibble_of m x) (w / m) h
      same a (inl p) =
          rw (p.1, p.2)
          (subst (λ (R : ℕ). count (m - 1) R (suc (nibble_of m x)) (w / m) h ≡ count (m - 1) R (nibble_of m x) (w / m) h) (sym (turns x))
          (count_other_more (m - 1) (group_of m x) (added_of m x) (added_lt x) (nibble_of m x) (w / m) h a))
      same a (inr p) =
          rw (p.1, p.2)
          (subst (λ (R : ℕ). count (m - 1) (suc R) 0 (w / m) h ≡ count (m - 1) R (nibble_of m x) (w / m) h) (sym (turns x))
          (count_other_wrap (m - 1) (group_of m x) (added_of m x) (added_lt x) (nibble_of m x) (w / m) h (omega (arith, good)) a))

      go : Dec (w % m ≡ 0) → added m (suc x) w h ≡ added m x w h
      go (yes e) =
          added_first (suc x) w h e ∙ same (apart e (ℕ_discrete h (nibble_of m x))) (next_div_mod (2 * m) x (omega (arith, good))) ∙ sym (added_first x w h e)
      go (no e) = added_not (suc x) w h e ∙ sym (added_not x w h e)

  -- when every XOR lookup is made, each group's sum is complete
  pub added_all : (c h : ℕ) → c < 16 / m → added m (xors m) (c * m) h ≡ m - 1
  unfolding xors
  added_all c h b =
      added_first _ (c * m) h (sum_mod c)
      ∙ ap₂ (λ (R H : ℕ). count (m - 1) R H (c * m / m) h)
      (ap (λ (y : ℕ). y / (2 * m)) (sym (add-zero (16 / m * (m - 1) * (2 * m)))) ∙ at_div (2 * m) (16 / m * (m - 1)) 0 (omega (arith, good)))
      (ap (λ (y : ℕ). y % (2 * m)) (sym (add-zero (16 / m * (m - 1) * (2 * m)))) ∙ at_mod (2 * m) (16 / m * (m - 1)) 0 (omega (arith, good)))
      ∙ ap (λ (y : ℕ). count (m - 1) (16 / m * (m - 1)) 0 y h) (sum_div c)
      ∙ count_past (m - 1) (16 / m * (m - 1)) 0 c h (mul-le-mul_right (m - 1) b)

  -- ---- the words and places of an XOR lookup of the layer lie in the area
  pub place_lt : (w h : ℕ) → w < 16 → h < 2 * m → place m w h < 512
  place_lt w h a b = omega (arith, good, mul-le-mul_right m a)

  pub group_lt : (x : ℕ) → x < xors m → group_of m x < 16 / m
  unfolding xors
  group_lt x made =
      let r : 0 < m - 1 = omega (arith, good) in
      let n : 0 < 2 * m = omega (arith, good) in
      (div-lt_iff_lt-mul r).1 ((div-lt_iff_lt-mul n).1 made)

  pub added_word_lt : (x : ℕ) → x < xors m → sum_of m x + suc (added_of m x) < 16
  added_word_lt x made = omega (arith, good, mul-le-mul_right m (group_lt x made), added_lt x)

  -- XOR lookup x puts its nibble into the 512 of the area
  pub sum_inside : (x : ℕ) → x < xors m → sum_place m x < 512
  sum_inside x made = place_lt (sum_of m x) (nibble_of m x) (let n : sum_of m x < 16 = omega (arith, added_word_lt x made) in n) (nibble_in x)

  -- nothing is added to the word that is added
  pub added_to_added : (x y h : ℕ) → added m y (sum_of m x + suc (added_of m x)) h ≡ 0
  added_to_added x y h =
      added_not y (sum_of m x + suc (added_of m x)) h
      (λ e.
      let f : (sum_of m x + suc (added_of m x)) % m ≡ suc (added_of m x) = at_mod m (group_of m x) (suc (added_of m x)) (omega (arith, good, added_lt x)) in
      omega arith)

  -- the group of a word or byte, and of a nibble of the sums, and the group's first word
  pub word_group : (w : ℕ) → w < 16 → w / m < 16 / m
  word_group w b =
      let pos : 0 < m = omega (arith, good) in
      (div-lt_iff_lt-mul pos).1 (omega (arith, good))

  pub nibble_group : (q : ℕ) → q < 32 → q / (2 * m) < 16 / m
  nibble_group q b =
      let pos : 0 < 2 * m = omega (arith, good) in
      (div-lt_iff_lt-mul pos).1 (omega (arith, good))

  pub first_word_lt : (c : ℕ) → c < 16 / m → c * m < 16
  first_word_lt c b = omega (arith, good, mul-le-mul_right m b)

  -- the words of a sum lie in the layer
  pub added_within : (x w h : ℕ) → w < 16 → w + added m x w h < 16
  unfolding added
  added_within x w h b = go (ℕ_discrete (w % m) 0)
    where
      most : added m x w h ≤ m - 1
      most = two (eqb (w % m) 0)
        where
          two : (t : Bool) → cond t (min (m - 1) (turn_of m x + min 1 (nibble_of m x - h) - w / m * (m - 1))) 0 ≤ m - 1
          two true = omega arith
          two false = omega arith

      go : Dec (w % m ≡ 0) → w + added m x w h < 16
      go (yes e) = omega (arith, good, most, mul-le-mul_right m (word_group w b), div-add-mod' w m)
      go (no e) = omega (arith, added_not x w h e)

  pub xors_pos : 0 < xors m
  unfolding xors
  xors_pos =
      let pos : 0 < m = omega (arith, good) in
      let r : 1 ≤ m - 1 = omega (arith, good) in
      let n : 1 ≤ 2 * m = omega (arith, good) in
      let g : 1 ≤ 16 / m = (le-div_iff_mul-le pos).1 (omega (arith, good)) in
      mul-le-mul (mul-le-mul g r) n

-- ---- the largest number of words that are added
added_most : (m x w h : ℕ) → added m x w h ≤ m - 1
unfolding added
added_most m x w h = two (eqb (w % m) 0)
  where
    two : (t : Bool) → cond t (min (m - 1) (turn_of m x + min 1 (nibble_of m x - h) - w / m * (m - 1))) 0 ≤ m - 1
    two true = omega arith
    two false = omega arith

-- A sum that begins before the first word of a group ends before it.
pub before_group : (m x w h w₀ : ℕ) → GoodWidth m → w₀ % m ≡ 0 → w < w₀ → w + added m x w h < w₀
before_group m x w h w₀ good e l = go (ℕ_discrete (w % m) 0)
  where
    a : w / m * m + w % m ≡ w
    a = div-add-mod' w m

    b : w₀ / m * m + w₀ % m ≡ w₀
    b = div-add-mod' w₀ m

    groups : w % m ≡ 0 → Dec (w / m < w₀ / m) → w + added m x w h < w₀
    groups z (yes c) = omega (arith, a, b, good, added_most m x w h, mul-le-mul_right m c)
    groups z (no c) = absurd (omega (arith, a, b, mul-le-mul_right m (let y : w₀ / m ≤ w / m = omega arith in y)))

    go : Dec (w % m ≡ 0) → w + added m x w h < w₀
    go (yes z) = groups z (dec_lt (w / m) (w₀ / m))
    go (no z) = omega (arith, added_not m good x w h z)
