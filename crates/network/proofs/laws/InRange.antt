-- Laws, not definitions: no table uses an encoding whose number is past the last result's.
-- Assumes nothing.
use mathlib.Core.List.{List, [], ◌∷◌}
use mathlib.Core.Path.{◌≡◌, refl}
use Prim.Native.Nat.{ℕ, zero, suc, ◌+◌, ◌-◌, ◌*◌, ◌/◌, ◌%◌, ◌≤◌, ◌<◌}
use native.Mathlib.Decide.{dec_lt}
use native.Mathlib.Nat.{mod-lt, mul-le-mul_right}
use native.Mathlib.Omega.{arith}
use borrow.Author.Tests.{lt-ltb, le-ltb}
use lib.Arith.{digits_lt}
use Rattle.bits.proofs.laws.Nibbles.{packed_ext}
use Rattle.network.specs.Numbers.{Numbers, encoding_number, layer_results, sum_number, next_numbers, start_numbers}
use Rattle.network.specs.Order.{GoodWidth, xors, layer_lookups, nibble_of, added_of, sum_of}
use Rattle.network.specs.Sizes.{results_in}
use Rattle.network.specs.Tables.{Layer, Good, AllGood, widths_of, spread_entry, spread_table, xor_entry, xor_table, table_in, table_at}
use Rattle.network.specs.Theorems.{NumbersInRange}
use Rattle.network.proofs.laws.Order.{xor_in, added_lt, added_word_lt, nibble_in, word_group, nibble_group, first_word_lt}

-- ---- the numbers of a layer lie between its first and the next layer's
module _ (m : ℕ) (good : GoodWidth m) (first : ℕ) where
  pub number_lt : (w d h : ℕ) → w < 16 → d < m → h < 2 * m → encoding_number m first w d h < first + layer_results m
  unfolding encoding_number layer_results
  number_lt w zero h a b c = omega (arith, mul-le-mul_right (2 * m) a)
  number_lt w (suc d) h a b c =
      let e : w / m * (m - 1) + d < 16 / m * (m - 1) = digits_lt (word_group m good w a) (omega arith) in
      let f : (w / m * (m - 1) + d) * (2 * m) + h < 16 / m * (m - 1) * (2 * m) = digits_lt e c in
      unfold xors in omega arith

  pub sum_number_lt : (q : ℕ) → q < 32 → sum_number m first q < first + layer_results m
  sum_number_lt q b =
      let pos : 0 < 2 * m = omega (arith, good) in
      number_lt (q / (2 * m) * m) (m - 1) (q % (2 * m)) (first_word_lt m good (q / (2 * m)) (nibble_group m good q b)) (omega (arith, good)) (mod-lt q pos)

-- ---- encodings that agree below a limit make the same tables
module _ (E E' : ℕ → List ℕ) (limit : ℕ) (same : (n : ℕ) → n < limit → E n ≡ E' n) where
  module _ (L : Layer) (good : Good L) (N : Numbers) (stands : (q : ℕ) → q < 32 → N.standing q < limit) (ends : N.first + layer_results L.width ≤ limit) where
    number_same : (w d h : ℕ) → w < 16 → d < L.width → h < 2 * L.width
        → E (encoding_number L.width N.first w d h) ≡ E' (encoding_number L.width N.first w d h)
    number_same w d h a b c = same _ (omega (arith, ends, number_lt L.width good.groups N.first w d h a b c))

    spread_same : (p : ℕ) → p < 16 → spread_table E L N p ≡ spread_table E' L N p
    unfolding spread_table spread_entry
    spread_same p b =
        let s = L.source p in
        let i : s < 16 = good.reads p b in
        packed_ext (256 * L.width) _ _ (λ q c.
        let here = number_same p 0 (q % (2 * L.width)) b (omega (arith, good.groups)) (mod-lt q (omega (arith, good.groups))) in
        rw (here, same (N.standing (2 * s)) (stands (2 * s) (omega arith)), same (N.standing (2 * s + 1)) (stands (2 * s + 1) (omega arith))))

    xor_same : (x : ℕ) → x < xors L.width → xor_table E L.width N.first x ≡ xor_table E' L.width N.first x
    unfolding xor_table xor_entry
    xor_same x b =
        let m = L.width in
        let a : sum_of m x + suc (added_of m x) < 16 = added_word_lt m good.groups x b in
        let d : added_of m x < m - 1 = added_lt m good.groups x in
        let h : nibble_of m x < 2 * m = nibble_in m good.groups x in
        let sum_next = number_same (sum_of m x) (suc (added_of m x)) (nibble_of m x) (omega arith) (omega arith) h in
        let sum-so-far = number_same (sum_of m x) (added_of m x) (nibble_of m x) (omega arith) (omega arith) h in
        let word-added = number_same (sum_of m x + suc (added_of m x)) 0 (nibble_of m x) a (omega (arith, good.groups)) h in
        packed_ext 128 _ _ (λ q c. rw (sum_next, sum-so-far, word-added))

    table_same : (j : ℕ) → j < layer_lookups L.width → table_in E L N j ≡ table_in E' L N j
    unfolding table_in
    table_same j b = elim (dec_lt j 16) [
      | yes l ↦ rw (lt-ltb j 16 l) (spread_same j l)
      | no l ↦ rw (le-ltb j 16 (omega arith)) (xor_same (j - 16) (xor_in L.width j (omega arith) b))
    ]

  tables_same : (Ls : List Layer) → AllGood Ls → (N : Numbers) → ((q : ℕ) → q < 32 → N.standing q < limit) → N.first + results_in (widths_of Ls) ≤ limit
      → (k : ℕ) → table_at E Ls N k ≡ table_at E' Ls N k
  unfolding table_at results_in
  tables_same [] g N s e k = refl
  tables_same (L ∷ Ls) g N s e k = elim (dec_lt k (layer_lookups L.width)) [
    | yes l ↦ rw (lt-ltb k (layer_lookups L.width) l) (table_same L g.0 N s (omega arith) k l)
    | no l ↦ rw (le-ltb k (layer_lookups L.width) (omega arith)) (tables_same Ls g.1 (next_numbers L.width N) next_stands next_ends (k - layer_lookups L.width))
  ]
    where
      next_stands : (q : ℕ) → q < 32 → (next_numbers L.width N).standing q < limit
      next_stands q b = unfold next_numbers in omega (arith, sum_number_lt L.width g.0.groups N.first q b)

      next_ends : (next_numbers L.width N).first + results_in (widths_of Ls) ≤ limit
      next_ends = unfold next_numbers in omega arith

pub in_range : NumbersInRange
unfolding start_numbers
in_range E E' Ls g same k =
    tables_same E E' (32 + results_in (widths_of Ls)) same Ls g start_numbers (λ q b. omega arith) (omega arith) k
