-- Laws, not definitions: the labels that the rule of the last writer gives, in closed form.
-- Assumes nothing.
use mathlib.Core.Bool.{Bool, cond}
use mathlib.Core.List.{List, [], ◌∷◌}
use mathlib.Core.Path.{◌≡◌, refl, sym, ap, ap₂, ◌∙◌, subst}
use Prim.Native.Nat.{ℕ, zero, suc, ◌+◌, ◌-◌, ◌*◌, ◌/◌, ◌%◌, ◌≤◌, ◌<◌, min}
use native.Mathlib.Decide.{ℕ_discrete, dec_lt}
use native.Mathlib.Nat.{not-suc-le-zero, div-add-mod', mod-lt}
use native.Mathlib.Omega.{arith}
use borrow.Author.Tests.{lt-ltb, le-ltb, eq-eqb, ne_eqb}
use lib.Dec.{eqb, ltb}
use Rattle.network.specs.Numbers.{Numbers, encoding_number, layer_results, sum_number, next_numbers, start_numbers}
use Rattle.network.specs.Order.{GoodWidth, xors, layer_lookups, nibble_of, turn_of, group_of, added_of, sum_of, place, sum_place, added}
use Rattle.network.specs.Rule.{Label, none, under, number_in, Labels, results, first_result, put_area, put, put_at, labels}
use Rattle.network.specs.Sizes.{lookups_in}
use Rattle.network.specs.Theorems.{GoodWidths}
use Rattle.network.proofs.laws.Order.{at_div, at_mod, layer_lookups_lem, xor_in, added_start, added_next, added_other, added_all, added_word_lt}
use Rattle.network.proofs.laws.Order.{nibble_in, sum_div, place_lt, nibble_group, first_word_lt}

-- ---- closed forms: the label of a place of the area, the number of the first nibble of a result, and all labels
unfoldable pub area_label : ℕ → ℕ → ℕ → ℕ → Label
area_label m first j q =
    let w = q / (2 * m) in
    let h = q % (2 * m) in
    cond (ltb w (min j 16)) (under (encoding_number m first w (added m (j - 16) w h) h)) none

abbrev pub result_in : ℕ → ℕ → ℕ → ℕ
result_in m first j = cond (ltb j 16) (first + j * (2 * m)) (first + 16 * (2 * m) + (j - 16))

unfoldable pub result_at : List ℕ → ℕ → ℕ → ℕ
result_at [] first k = first
result_at (m ∷ ms) first k = cond (ltb k (layer_lookups m)) (result_in m first k) (result_at ms (first + layer_results m) (k - layer_lookups m))

unfoldable pub closed_labels : List ℕ → Numbers → ℕ → Labels
closed_labels [] N k = record { standing = N.standing; area = λ q. none }
closed_labels (m ∷ ms) N k =
    cond (ltb k (layer_lookups m)) (record { standing = N.standing; area = area_label m N.first k }) (closed_labels ms (next_numbers m N) (k - layer_lookups m))

-- the same labels at every place
pub record Agree (T T' : Labels) : Type 0 where
  pub stands : (q : ℕ) → q < 32 → T.standing q ≡ T'.standing q
  pub areas : (q : ℕ) → q < 512 → T.area q ≡ T'.area q

-- ---- the number of a result's first nibble
first_zero : (ms : List ℕ) (first : ℕ) → result_at ms first 0 ≡ first
unfolding result_at
first_zero [] first = refl
first_zero (m ∷ ms) first = rw (lt-ltb 0 (layer_lookups m) (omega (arith, layer_lookups_lem m))) (omega arith)

first_suc : (ms : List ℕ) (first k : ℕ) → k < lookups_in ms → result_at ms first (suc k) ≡ result_at ms first k + results ms k
unfolding result_at results lookups_in
first_suc [] first k h = absurd (not-suc-le-zero h)
first_suc (m ∷ ms) first k h = go (dec_lt (suc k) T) (dec_lt k T) (λ a. first_suc ms (first + layer_results m) (k - T) a)
  where
    T : ℕ
    T = layer_lookups m

    inner : Dec (k < 16) → Dec (suc k < 16) → result_in m first (suc k) ≡ result_in m first k + cond (ltb k 16) (2 * m) 1
    inner (yes a) (yes b) = rw (lt-ltb k 16 a, lt-ltb (suc k) 16 b) (omega arith)
    inner (yes a) (no b) =
        let e : k ≡ 15 = omega arith in
        rw (lt-ltb k 16 a, le-ltb (suc k) 16 (omega arith), e) (omega arith)
    inner (no a) b = rw (le-ltb k 16 (omega arith), le-ltb (suc k) 16 (omega arith)) (omega arith)

    whole : suc k ≡ T → first + layer_results m ≡ result_in m first (suc k)
    whole e =
        unfold layer_results in
        rw (le-ltb (suc k) 16 (omega (arith, layer_lookups_lem m))) (omega (arith, layer_lookups_lem m))

    go : Dec (suc k < T) → Dec (k < T)
        → (k - T < lookups_in ms → result_at ms (first + layer_results m) (suc (k - T)) ≡ result_at ms (first + layer_results m) (k - T) + results ms (k - T))
        → result_at (m ∷ ms) first (suc k) ≡ result_at (m ∷ ms) first k + results (m ∷ ms) k
    go (yes a) b ih = rw (lt-ltb (suc k) T a, lt-ltb k T (omega arith)) (inner (dec_lt k 16) (dec_lt (suc k) 16))
    go (no a) (yes b) ih =
        let e : suc k - T ≡ 0 = omega arith in
        rw (le-ltb (suc k) T (omega arith), lt-ltb k T b, e)
        (first_zero ms (first + layer_results m) ∙ whole (omega arith) ∙ inner (dec_lt k 16) (dec_lt (suc k) 16))
    go (no a) (no b) ih =
        let e : suc k - T ≡ suc (k - T) = omega arith in
        rw (le-ltb (suc k) T (omega arith), le-ltb k T (omega arith), e) (ih (omega arith))

pub first_is : (ms : List ℕ) (k : ℕ) → k ≤ lookups_in ms → first_result ms k ≡ result_at ms 32 k
unfolding first_result
first_is ms zero h = sym (first_zero ms 32)
first_is ms (suc k) h = ap (λ (x : ℕ). x + results ms k) (first_is ms k (omega arith)) ∙ sym (first_suc ms 32 k h)

-- ---- one lookup of a layer
pub area_held : (m first j q w h d : ℕ) → q / (2 * m) ≡ w → q % (2 * m) ≡ h → w < j → w < 16 → added m (j - 16) w h ≡ d
    → area_label m first j q ≡ under (encoding_number m first w d h)
unfolding area_label
area_held m first j q w h d e f a b g = rw (e, f, lt-ltb w (min j 16) (omega arith), g)

area_blank : (m first j q : ℕ) → min j 16 ≤ q / (2 * m) → area_label m first j q ≡ none
unfolding area_label
area_blank m first j q a = rw (le-ltb (q / (2 * m)) (min j 16) a)

number_spread : (m first w h : ℕ) → encoding_number m first w 0 h ≡ first + w * (2 * m) + h
unfolding encoding_number
number_spread m first w h = refl

module _ (m : ℕ) (good : GoodWidth m) (first : ℕ) where
  -- the number of XOR lookup x
  pub number_xor : (x : ℕ) → first + 16 * (2 * m) + x ≡ encoding_number m first (sum_of m x) (suc (added_of m x)) (nibble_of m x)
  unfolding encoding_number
  number_xor x =
      ap (λ (y : ℕ). first + 16 * (2 * m) + y)
      (sym (div-add-mod' x (2 * m))
      ∙ ap (λ (y : ℕ). y * (2 * m) + nibble_of m x)
      (sym (div-add-mod' (turn_of m x) (m - 1)) ∙ ap (λ (c : ℕ). c * (m - 1) + added_of m x) (sym (sum_div m good (group_of m x)))))
      ∙ omega arith

  area_step : (j : ℕ) → j < layer_lookups m → (a : ℕ → Label) (q : ℕ) → a q ≡ area_label m first j q
      → put_area m j (result_in m first j) a q ≡ area_label m first (suc j) q
  unfolding put_area
  area_step j made a q e = go (dec_lt j 16)
    where
      w : ℕ
      w = q / (2 * m)

      h : ℕ
      h = q % (2 * m)

      hl : h < 2 * m
      hl = mod-lt q (omega (arith, good))

      x : ℕ
      x = j - 16

      spread : j < 16 → Dec (w ≡ j) → cond (eqb w j) (under (first + j * (2 * m) + h)) (a q) ≡ area_label m first (suc j) q
      spread l (yes f) =
          rw (eq-eqb w j f)
          (ap (λ (y : ℕ). under (first + y * (2 * m) + h)) (sym f) ∙ ap under (sym (number_spread m first w h))
          ∙ sym (area_held m first (suc j) q w h 0 refl refl (omega arith) (omega arith) (added_start m good (suc j) w h l)))
      spread l (no f) = rw (ne_eqb w j f) (e ∙ kept (dec_lt w j))
        where
          kept : Dec (w < j) → area_label m first j q ≡ area_label m first (suc j) q
          kept (yes c) =
              area_held m first j q w h 0 refl refl c (omega arith) (added_start m good j w h (omega arith))
              ∙ sym (area_held m first (suc j) q w h 0 refl refl (omega arith) (omega arith) (added_start m good (suc j) w h l))
          kept (no c) = area_blank m first j q (omega arith) ∙ sym (area_blank m first (suc j) q (omega arith))

      xored : 16 ≤ j → x < xors m → Dec (q ≡ sum_place m x) → cond (eqb q (sum_place m x)) (under (first + 16 * (2 * m) + x)) (a q) ≡ area_label m first (suc j) q
      xored l c (yes f) =
          let ah : nibble_of m x < 2 * m = nibble_in m good x in
          let g : suc j - 16 ≡ suc x = omega arith in
          rw (eq-eqb q (sum_place m x) f)
          (ap under (number_xor x)
          ∙ sym (area_held m first (suc j) q (sum_of m x) (nibble_of m x) (suc (added_of m x))
          (ap (λ (y : ℕ). y / (2 * m)) f ∙ at_div (2 * m) (sum_of m x) (nibble_of m x) ah)
          (ap (λ (y : ℕ). y % (2 * m)) f ∙ at_mod (2 * m) (sum_of m x) (nibble_of m x) ah)
          (omega (arith, added_word_lt m good x c)) (omega (arith, added_word_lt m good x c))
          (ap (λ (y : ℕ). added m y (sum_of m x) (nibble_of m x)) g ∙ added_next m good x)))
      xored l c (no f) =
          let g : suc j - 16 ≡ suc x = omega arith in
          rw (ne_eqb q (sum_place m x) f) (e ∙ kept g (dec_lt w 16))
        where
          apart : w ≡ sum_of m x → h ≡ nibble_of m x → ⊥
          apart p r = f (sym (div-add-mod' q (2 * m)) ∙ ap₂ (place m) p r)

          kept : suc j - 16 ≡ suc x → Dec (w < 16) → area_label m first j q ≡ area_label m first (suc j) q
          kept g (yes c') =
              area_held m first j q w h (added m x w h) refl refl (omega arith) c' refl
              ∙ sym (area_held m first (suc j) q w h (added m x w h) refl refl (omega arith) c'
              (ap (λ (y : ℕ). added m y w h) g ∙ added_other m good x w h hl apart))
          kept g (no c') = area_blank m first j q (omega arith) ∙ sym (area_blank m first (suc j) q (omega arith))

      go : Dec (j < 16)
          → cond (ltb j 16) (cond (eqb w j) (under (result_in m first j + h)) (a q)) (cond (eqb q (sum_place m x)) (under (result_in m first j)) (a q))
          ≡ area_label m first (suc j) q
      go (yes l) = rw (lt-ltb j 16 l) (spread l (ℕ_discrete w j))
      go (no l) = rw (le-ltb j 16 (omega arith)) (xored (omega arith) (xor_in m j (omega arith) made) (ℕ_discrete q (sum_place m x)))

  -- at the end of the layer each sum has its last XOR's number
  abbrev sum_at : ℕ → ℕ
  sum_at q = place m (q / (2 * m) * m) (q % (2 * m))

  sum_label : (q : ℕ) → q < 32 → (sum_at q < 512) × (area_label m first (layer_lookups m) (sum_at q) ≡ under (sum_number m first q))
  sum_label q b =
      let pos : 0 < 2 * m = omega (arith, good) in
      let c : q / (2 * m) < 16 / m = nibble_group m good q b in
      let w : q / (2 * m) * m < 16 = first_word_lt m good (q / (2 * m)) c in
      let hl : q % (2 * m) < 2 * m = mod-lt q pos in
      let back : layer_lookups m - 16 ≡ xors m = omega (arith, layer_lookups_lem m) in (
        place_lt m good (q / (2 * m) * m) (q % (2 * m)) w hl,
        area_held m first (layer_lookups m) (sum_at q) (q / (2 * m) * m) (q % (2 * m)) (m - 1)
            (at_div (2 * m) (q / (2 * m) * m) (q % (2 * m)) hl) (at_mod (2 * m) (q / (2 * m) * m) (q % (2 * m)) hl)
            (omega (arith, layer_lookups_lem m)) w
            (ap (λ (y : ℕ). added m y (q / (2 * m) * m) (q % (2 * m))) back ∙ added_all m good (q / (2 * m)) (q % (2 * m)) c),
      )

-- ---- the lookups of a network
labels_zero : (ms : List ℕ) (N : Numbers) (T : Labels) → ((q : ℕ) → q < 32 → T.standing q ≡ N.standing q) → ((q : ℕ) → q < 512 → T.area q ≡ none)
    → Agree T (closed_labels ms N 0)
unfolding closed_labels
labels_zero [] N T s a = record { stands = s; areas = a }
labels_zero (m ∷ ms) N T s a =
    rw (lt-ltb 0 (layer_lookups m) (omega (arith, layer_lookups_lem m)))
    (record { stands = s; areas = λ q h. a q h ∙ sym (area_blank m N.first 0 q (omega arith)) })

-- what agrees at count k, inside the first layer and past it
pub agree_in : (m : ℕ) (ms : List ℕ) (N : Numbers) (k : ℕ) (T : Labels) → Agree T (closed_labels (m ∷ ms) N k) → k < layer_lookups m
    → Agree T (record { standing = N.standing; area = area_label m N.first k })
unfolding closed_labels
agree_in m ms N k T a l =
    subst (λ (t : Bool). Agree T (cond t (record { standing = N.standing; area = area_label m N.first k }) (closed_labels ms (next_numbers m N) (k - layer_lookups m))))
    (lt-ltb k (layer_lookups m) l) a

pub agree_past : (m : ℕ) (ms : List ℕ) (N : Numbers) (k : ℕ) (T : Labels) → Agree T (closed_labels (m ∷ ms) N k) → layer_lookups m ≤ k
    → Agree T (closed_labels ms (next_numbers m N) (k - layer_lookups m))
unfolding closed_labels
agree_past m ms N k T a l =
    subst (λ (t : Bool). Agree T (cond t (record { standing = N.standing; area = area_label m N.first k }) (closed_labels ms (next_numbers m N) (k - layer_lookups m))))
    (le-ltb k (layer_lookups m) l) a

put_step : (ms : List ℕ) → GoodWidths ms → (N : Numbers) (k : ℕ) → k < lookups_in ms → (T : Labels) → Agree T (closed_labels ms N k)
    → Agree (put_at ms k (result_at ms N.first k) T) (closed_labels ms N (suc k))
unfolding put_at result_at lookups_in put closed_labels next_numbers
put_step [] g N k h T a = absurd (not-suc-le-zero h)
put_step (m ∷ ms) g N k h T a =
    go (dec_lt (suc k) S) (dec_lt k S) (λ c b. put_step ms g.1 (next_numbers m N) (k - S) c T b)
  where
    S : ℕ
    S = layer_lookups m

    go : Dec (suc k < S) → Dec (k < S)
        → (k - S < lookups_in ms → Agree T (closed_labels ms (next_numbers m N) (k - S))
        → Agree (put_at ms (k - S) (result_at ms (next_numbers m N).first (k - S)) T) (closed_labels ms (next_numbers m N) (suc (k - S))))
        → Agree (put_at (m ∷ ms) k (result_at (m ∷ ms) N.first k) T) (closed_labels (m ∷ ms) N (suc k))
    go (yes c) d ih =
        let l : k < S = omega arith in
        let b = agree_in m ms N k T a l in
        rw (lt-ltb k S l, lt-ltb (suc k) S c, ne_eqb (suc k) S (λ e. omega arith))
        (record { stands = b.stands; areas = λ q i. area_step m g.0 N.first k l T.area q (b.areas q i) })
    go (no c) (yes l) ih =
        let e : suc k ≡ S = omega arith in
        let f : suc k - S ≡ 0 = omega arith in
        rw (lt-ltb k S l, le-ltb (suc k) S (omega arith), eq-eqb (suc k) S e, f)
        (labels_zero ms (next_numbers m N) _
        (λ q b.
        let s = sum_label m g.0 N.first q b in
        let p : ℕ = place m (q / (2 * m) * m) (q % (2 * m)) in
        ap number_in
        (area_step m g.0 N.first k l T.area p ((agree_in m ms N k T a l).areas p s.0) ∙ ap (λ (n : ℕ). area_label m N.first n p) e ∙ s.1))
        (λ q b. refl))
    go (no c) (no l) ih =
        let f : suc k - S ≡ suc (k - S) = omega arith in
        rw (le-ltb k S (omega arith), le-ltb (suc k) S (omega arith), f) (ih (omega arith) (agree_past m ms N k T a (omega arith)))

pub labels_are : (ms : List ℕ) → GoodWidths ms → (k : ℕ) → k ≤ lookups_in ms → Agree (labels ms k) (closed_labels ms start_numbers k)
unfolding labels start_numbers
labels_are ms g zero h = labels_zero ms start_numbers _ (λ q b. refl) (λ q b. refl)
labels_are ms g (suc k) h =
    subst (λ (n : ℕ). Agree (put_at ms k n (labels ms k)) (closed_labels ms start_numbers (suc k))) (sym (first_is ms k (omega arith)))
    (put_step ms g start_numbers k h (labels ms k) (labels_are ms g k (omega arith)))
