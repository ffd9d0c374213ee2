-- Laws, not definitions: a lookup over its table with a bit turned over that it reads. That bit of the entry is a bit of what the lookup makes, so one nibble of the
-- area is another one; under its encoding it is another value, and the area is the one due in a layer of which one nibble of one word is changed.
-- Assumes nothing.
use mathlib.Core.List.{List, ◌++◌}
use mathlib.Core.Logic.{◌⊎◌, inl, inr}
use mathlib.Core.Path.{◌≡◌, sym, ap, ap₂, ◌∙◌, subst}
use Prim.Native.Nat.{ℕ, suc, ◌+◌, ◌-◌, ◌*◌, ◌/◌, ◌%◌, ◌≤◌, ◌<◌}
use native.Mathlib.Decide.{dec_lt}
use native.Mathlib.Nat.{mul-le-mul_right, div-add-mod', mod-lt}
use native.Mathlib.Omega.{arith}
use borrow.Author.Tests.{lt-ltb, le-ltb}
use lib.Bits.{bit_xor, xor_comm, xor_lt}
use lib.ListN.{length, take, drop, length-append, length-drop}
use lib.Seq.{length-take-le}
use Rattle.bits.specs.Bytes.{Bytes}
use Rattle.bits.specs.Encodings.{encode, decode, Permutation}
use Rattle.bits.specs.Flips.{flipped}
use Rattle.bits.specs.Lists.{at}
use Rattle.bits.specs.Nibbles.{nibble, set_nibble, packed}
use Rattle.bits.specs.Vectors.{unit}
use Rattle.bits.proofs.laws.Encodings.{encode_decode, decode_lt, encode_lt}
use Rattle.bits.proofs.laws.Flips.{nibble_bit, nibble_flipped_same, flipped_packed, flip_nibble, part_within, flipped_front, flipped_behind}
use Rattle.bits.proofs.laws.Nibbles.{length_packed, packed_bytes, nibble_lt}
use Rattle.bits.proofs.laws.Xor.{xor_back, xor_zero_eq, xor_none}
use Rattle.network.specs.Due.{sum, values_in, shown, encoded}
use Rattle.network.specs.Lookups.{spread_area, xor_index, xor_area, area_in}
use Rattle.network.specs.Numbers.{Numbers, encoding_number}
use Rattle.network.specs.Order.{layer_lookups, nibble_of, group_of, sum_of, place, sum_place, added_place, added}
use Rattle.network.specs.Read.{read_in}
use Rattle.network.specs.Sizes.{size_of}
use Rattle.network.specs.Tables.{Layer, Good, shape_of, table_in}
use Rattle.network.specs.Theorems.{Permutations}
use Rattle.network.proofs.laws.Bytes.{table_bytes}
use Rattle.network.proofs.laws.Order.{xor_in, group_lt, first_word_lt, nibble_in, place_lt, sum_mod}
use Rattle.network.proofs.laws.Read.{read_spread, read_xor}
use Rattle.network.proofs.laws.Sizes.{spread_size, xor_size, length_table_in}
use Rattle.network.proofs.laws.Steps.{cell, cells, cells_lt, cells_at, layer_state, area_step}
use Rattle.network.proofs.laws.Values.{sum_lt}
use Rattle.sensitivity.specs.Reads.{first_bit}
use Rattle.sensitivity.proofs.laws.Changed.{changed, good_changed, due_other, due_here}

-- ---- any memory: what a bit of the entry is in the area
-- Bit e of the word that a spread lookup reads is bit e of the word that it puts down.
spread_flips : (m s p : ℕ) (t standing area : List ℕ) (e : ℕ) → e < 8 * m → p * m + m ≤ length area → at standing s * m + m ≤ length t
    → spread_area m s p (flipped t (8 * (at standing s * m) + e)) standing area ≡ flipped (spread_area m s p t standing area) (8 * (p * m) + e)
unfolding spread_area
spread_flips m s p t standing area e h fits has =
    ap (λ (y : List ℕ). (U ++ y) ++ R) (part_within t (at standing s * m) m e h)
    ∙ ap (λ (y : List ℕ). y ++ R) (sym (flipped_behind U W e))
    ∙ sym (flipped_front (U ++ W) R (8 * length U + e) (omega (arith, length-append U W, long_w)))
    ∙ ap (λ (n : ℕ). flipped ((U ++ W) ++ R) (8 * n + e)) (length-take-le (p * m) area (omega arith))
  where
    U : List ℕ
    U = take (p * m) area

    W : List ℕ
    W = take m (drop (at standing s * m) t)

    R : List ℕ
    R = drop (p * m + m) area

    long_w : length W ≡ m
    long_w = length-take-le m (drop (at standing s * m) t) (omega (arith, length-drop (at standing s * m) t))

-- Bit e of the entry that an XOR lookup reads is bit e of the sum.
xor_flips : (m x : ℕ) (t area : List ℕ) (e : ℕ) → e < 4 → sum_place m x / 2 < length area → xor_index m x area / 2 < length t → nibble t (xor_index m x area) < 16
    → xor_area m x (flipped t (4 * xor_index m x area + e)) area ≡ flipped (xor_area m x t area) (4 * sum_place m x + e)
unfolding xor_area
xor_flips m x t area e h fits has small =
    let i : ℕ = xor_index m x area in
    let a : (4 * i + e) / 4 ≡ i = omega arith in
    let b : (4 * i + e) % 4 ≡ e = omega arith in
    ap (set_nibble area (sum_place m x))
    (ap (nibble (flipped t (4 * i + e))) (sym a)
    ∙ nibble_flipped_same t (4 * i + e) (omega arith)
    ∙ ap₂ (λ (q r : ℕ). bit_xor (nibble t q) (unit 4 r)) a b)
    ∙ flip_nibble area (sum_place m x) (nibble t i) e fits small h

-- ---- a bit of an encoded nibble turned over is another value under the same encoding
pub record Other (E : List ℕ) (s r : ℕ) : Type 0 where
  pub by : ℕ
  pub small : by < 16
  pub some : by ≡ 0 → ⊥
  pub is : encode E (bit_xor s by) ≡ bit_xor (encode E s) (unit 4 r)

other : (E : List ℕ) → Permutation E → (s r : ℕ) → s < 16 → r < 4 → Other E s r
other E p s r h c =
    record {
      by = bit_xor t s;
      small = xor_lt 4 t s (decode_lt E p y y_lt) h;
      some = λ e. differs (sym back ∙ ap (encode E) (xor_zero_eq t s e));
      is = ap (encode E) (xor_comm s (bit_xor t s) ∙ xor_back t s) ∙ back;
    }
  where
    y : ℕ
    y = bit_xor (encode E s) (unit 4 r)

    y_lt : y < 16
    y_lt = xor_lt 4 (encode E s) (unit 4 r) (encode_lt p s) (nibble_bit r c).0

    t : ℕ
    t = decode E y

    back : encode E t ≡ y
    back = encode_decode E p y y_lt

    differs : y ≡ encode E s → ⊥
    differs e = omega (arith, xor_none (encode E s) (unit 4 r) e, (nibble_bit r c).1)

-- ---- a lookup of a layer
module _ (E : ℕ → List ℕ) (perm : Permutations E) (L : Layer) (good : Good L) (N : Numbers) (l : List ℕ) (plain : Bytes l) where
  abbrev m : ℕ
  m = L.width

  abbrev standing : List ℕ
  standing = encoded E N.standing l

  abbrev area : ℕ → List ℕ
  area j = packed 256 (cells E perm L good N l plain j)

  -- The area that lookup j makes is that of a layer in which `by` is added to nibble `place` of word `word`, which stands there by then.
  pub record Struck (j : ℕ) (made : List ℕ) : Type 0 where
    pub word : ℕ
    pub place : ℕ
    pub by : ℕ
    pub by_then : word ≤ j
    pub word_lt : word < 16
    pub place_lt : place < 2 * L.width
    pub small : by < 16
    pub some : by ≡ 0 → ⊥
    pub is : made ≡ packed 256 (cells E perm (changed L word place by) (good_changed L good word place by small place_lt) N l plain (suc j))

  -- Bit r of nibble h₀ of word w₀, which holds its spread word alone or is the sum of its group.
  module _ (j w₀ h₀ r : ℕ) (by_then : w₀ ≤ j) (wl : w₀ < 16) (hl : h₀ < 2 * L.width) (rl : r < 4) (safe : (suc j ≤ 16) ⊎ (w₀ % L.width ≡ 0)) where
    abbrev n : ℕ
    n = added m (suc j - 16) w₀ h₀

    abbrev label : ℕ
    label = encoding_number m N.first w₀ n h₀

    abbrev value : ℕ
    value = sum (values_in L l).word w₀ n h₀

    o : Other (E label) value r
    o = other (E label) (perm label) value r (sum_lt (values_in L l).word (λ p b. good.bytes p (at l (L.source p)) b) w₀ n h₀) rl

    good' : Good (changed L w₀ h₀ o.by)
    good' = good_changed L good w₀ h₀ o.by o.small hl

    area_is : flipped (area (suc j)) (4 * place m w₀ h₀ + r) ≡ packed 256 (cells E perm (changed L w₀ h₀ o.by) good' N l plain (suc j))
    unfolding cell
    area_is =
        let L' : Layer = changed L w₀ h₀ o.by in
        let i : ℕ = 4 * place m w₀ h₀ + r in
        let e : i / 4 ≡ place m w₀ h₀ = omega arith in
        let f : i % 4 ≡ r = omega arith in
        let D = due_here L good w₀ h₀ o.by o.small hl l N.first (suc j) (omega arith) wl in
        let here : cells E perm L good N l plain (suc j) (i / 4) ≡ encode (E label) value =
        ap (cells E perm L good N l plain (suc j)) e ∙ cells_at E perm L good N l plain (suc j) w₀ h₀ hl ∙ ap (shown E) D.0 in
        let here' : cells E perm L' good' N l plain (suc j) (i / 4) ≡ encode (E label) (bit_xor value o.by) =
        ap (cells E perm L' good' N l plain (suc j)) e ∙ cells_at E perm L' good' N l plain (suc j) w₀ h₀ hl ∙ ap (shown E) D.1 in
        flipped_packed 256 (cells E perm L good N l plain (suc j)) (cells E perm L' good' N l plain (suc j)) (cells_lt E perm L good N l plain (suc j)) i
        (omega (arith, place_lt m good.groups w₀ h₀ wl hl))
        (here' ∙ o.is ∙ ap₂ (λ (x y : ℕ). bit_xor x (unit 4 y)) (sym here) (sym f))
        (λ q h ne. others q (λ a b. ne (sym (div-add-mod' q (2 * m)) ∙ ap₂ (λ (x y : ℕ). x * (2 * m) + y) a b ∙ sym e)))
      where
        others : (q : ℕ) → (q / (2 * L.width) ≡ w₀ → q % (2 * L.width) ≡ h₀ → ⊥)
            → cells E perm (changed L w₀ h₀ o.by) good' N l plain (suc j) q ≡ cells E perm L good N l plain (suc j) q
        others q ne =
            unfold cells in
            ap (shown E)
            (due_other L good w₀ h₀ o.by o.small hl l N.first (suc j) (q / (2 * L.width)) (q % (2 * L.width)) (mod-lt q (omega (arith, good.groups))) ne safe)

    struck_at : (made : List ℕ) → made ≡ flipped (area (suc j)) (4 * place m w₀ h₀ + r) → Struck j made
    unfolding good'
    struck_at made e =
        record {
          word = w₀;
          place = h₀;
          by = o.by;
          by_then = by_then;
          word_lt = wl;
          place_lt = hl;
          small = o.small;
          some = o.some;
          is = e ∙ area_is;
        }

  -- ---- the two kinds of lookups, over the table with bit e turned over of what they read
  standing_bytes : Bytes standing
  unfolding encoded
  standing_bytes = packed_bytes 16 _ (λ q h. encode_lt (perm _) _)

  area_bytes : (j : ℕ) → Bytes (area j)
  area_bytes j = packed_bytes 256 _ (λ q h. cells_lt E perm L good N l plain j q)

  area_long : (j : ℕ) → length (area j) ≡ 256
  area_long j = length_packed 256 (cells E perm L good N l plain j)

  struck_spread : (from j : ℕ) → j < 16 → j < layer_lookups m → (e : ℕ) → e < 8 * m
      → Struck j (area_in (shape_of L) j (flipped (table_in E L N j) (8 * (at standing (L.source j) * m) + e)) (layer_state E perm L good N l plain from j))
  struck_spread from j c h e b =
      struck_at j j (e / 4) (e % 4) (omega arith) c (omega arith) (omega arith) (inl c) _
      (made ∙ ap₂ flipped own (let z : 8 * (j * m) + e ≡ 4 * place m j (e / 4) + e % 4 = omega arith in z))
    where
      t : List ℕ
      t = table_in E L N j

      x : ℕ
      x = at standing (L.source j)

      long : length t ≡ 256 * L.width
      long = length_table_in E L N j ∙ spread_size L.width j c

      own : spread_area m (L.source j) j t standing (area j) ≡ area (suc j)
      own = rw (lt-ltb j 16 c) at (area_step E perm L good N l plain from j h)

      made : area_in (shape_of L) j (flipped t (8 * (x * m) + e)) (layer_state E perm L good N l plain from j)
          ≡ flipped (spread_area m (L.source j) j t standing (area j)) (8 * (j * m) + e)
      made =
          rw (lt-ltb j 16 c)
          (spread_flips m (L.source j) j t standing (area j) e b (omega (arith, area_long j, good.groups, mul-le-mul_right m c))
          (omega (arith, long, mul-le-mul_right m (standing_bytes (L.source j)))))

  struck_xor : (from j : ℕ) → 16 ≤ j → j < layer_lookups m → (e : ℕ) → e < 4
      → Struck j (area_in (shape_of L) j (flipped (table_in E L N j) (4 * xor_index m (j - 16) (area j) + e)) (layer_state E perm L good N l plain from j))
  struck_xor from j c h e b =
      struck_at j (sum_of m x) (nibble_of m x) e (omega (arith, word_in_lem)) word_in_lem in_word b (inr (sum_mod m good.groups (group_of m x))) _
      (made ∙ ap (λ (a : List ℕ). flipped a (4 * sum_place m x + e)) own)
    where
      x : ℕ
      x = j - 16

      t : List ℕ
      t = table_in E L N j

      i : ℕ
      i = xor_index m x (area j)

      i_lt : i < 256
      i_lt = omega (arith, nibble_lt (area j) (area_bytes j) (sum_place m x), nibble_lt (area j) (area_bytes j) (added_place m x))

      long : length t ≡ 128
      long = length_table_in E L N j ∙ xor_size m j c

      word_in_lem : sum_of m x < 16
      word_in_lem = first_word_lt m good.groups (group_of m x) (group_lt m good.groups x (xor_in m j c h))

      in_word : nibble_of m x < 2 * m
      in_word = nibble_in m good.groups x

      own : xor_area m x t (area j) ≡ area (suc j)
      own = rw (le-ltb j 16 c) at (area_step E perm L good N l plain from j h)

      made : area_in (shape_of L) j (flipped t (4 * i + e)) (layer_state E perm L good N l plain from j) ≡ flipped (xor_area m x t (area j)) (4 * sum_place m x + e)
      made =
          rw (le-ltb j 16 c)
          (xor_flips m x t (area j) e b
          (omega (arith, area_long j, place_lt m good.groups (sum_of m x) (nibble_of m x) word_in_lem in_word))
          (omega (arith, long, i_lt)) (nibble_lt t (table_bytes E perm L N j) i))

  -- Any lookup of the layer, and bit e of those that it reads: one for every 32 bytes of its table, which has 256 entries (`entry_size` of `laws.Unread`).
  pub struck : (from j : ℕ) → j < layer_lookups m → (e : ℕ) → 32 * e < size_of m j
      → Struck j (area_in (shape_of L) j (flipped (table_in E L N j) (first_bit (read_in (shape_of L) j 0 standing (area j)) + e)) (layer_state E perm L good N l plain from j))
  struck from j h e b = go (dec_lt j 16)
    where
      first : ℕ
      first = first_bit (read_in (shape_of L) j 0 standing (area j))

      at_bit : ℕ → Type 0
      at_bit i = Struck j (area_in (shape_of L) j (flipped (table_in E L N j) (i + e)) (layer_state E perm L good N l plain from j))

      go : Dec (j < 16) → at_bit first
      go (yes c) =
          let z : first ≡ 8 * (at standing (L.source j) * m) = ap first_bit (read_spread (shape_of L) j 0 standing (area j) c) ∙ omega arith in
          subst at_bit (sym z) (struck_spread from j c h e (omega (arith, spread_size m j c)))
      go (no c) =
          let z : first ≡ 4 * xor_index m (j - 16) (area j) = ap first_bit (read_xor (shape_of L) j 0 standing (area j) (omega arith)) ∙ omega arith in
          subst at_bit (sym z) (struck_xor from j (omega arith) h e (omega (arith, xor_size m j (omega arith))))
