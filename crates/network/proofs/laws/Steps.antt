-- Laws, not definitions: one lookup of a layer takes the closed form of k lookups to that of k + 1, and the last one of a layer leaves its
-- sums.
-- Assumes nothing.
use mathlib.Core.Bool.{Bool, true, false, cond}
use mathlib.Core.List.{List}
use mathlib.Core.Path.{◌≡◌, refl, sym, ap, ap₂, ◌∙◌, subst}
use Prim.Native.Nat.{ℕ, suc, ◌+◌, ◌-◌, ◌*◌, ◌/◌, ◌%◌, ◌≤◌, ◌<◌, min}
use native.Mathlib.Decide.{dec_lt}
use native.Mathlib.Nat.{mod-lt, div-add-mod', mul-le-mul_right, div-lt_iff_lt-mul, le-div_iff_mul-le}
use native.Mathlib.Omega.{arith}
use borrow.Author.Tests.{lt-ltb, le-ltb, eq-eqb, ne_eqb}
use lib.Bits.{bit_xor}
use lib.Dec.{ltb}
use lib.ListN.{drop, replicate, length-replicate, get_or-replicate}
use lib.Seq.{ext_get_or, paste}
use Rattle.bits.proofs.laws.Encodings.{decode_encode, encode_lt}
use Rattle.bits.proofs.laws.Lists.{tabulate_ext}
use Rattle.bits.proofs.laws.Nibbles.{length_packed, at_packed, nibble_packed, packed_ext, set_nibble_packed, paste_packed, nibble_lt, nibble_even, nibble_odd}
use Rattle.bits.specs.Bytes.{Bytes}
use Rattle.bits.specs.Encodings.{encode, decode, Permutation}
use Rattle.bits.specs.Lists.{at}
use Rattle.bits.specs.Nibbles.{pack, nibble, packed}
use Rattle.network.specs.Due.{sum, summed, values_in, held, blank, shown, due_in, encoded}
use Rattle.network.specs.Lookups.{State, state_at, zero_area, xor_area, spread_area, sums, area_in, leaving}
use Rattle.network.specs.Numbers.{Numbers, encoding_number, next_numbers}
use Rattle.network.specs.Order.{xors, layer_lookups, nibble_of, added_of, sum_of, place, sum_place, added_place, added}
use Rattle.network.specs.Tables.{Layer, Good, shape_of, spread_entry, spread_table, xor_entry, xor_table, table_in}
use Rattle.network.proofs.laws.Order.{at_div, at_mod, layer_lookups_lem, xor_in, added_start, added_here, added_next, added_other, added_all}
use Rattle.network.proofs.laws.Order.{added_to_added, added_word_lt, nibble_in, place_lt, word_group, nibble_group, first_word_lt, xors_pos}
use Rattle.network.proofs.laws.Values.{sum_first, sum_next, sum_lt, nibble_summed}

pub same_state : {a b : State} → a.count ≡ b.count → a.standing ≡ b.standing → a.area ≡ b.area → a ≡ b
same_state p q r = λ i. state_at (p i) (q i) (r i)

pub pack_nibbles : (l : List ℕ) (i : ℕ) → pack (nibble l (2 * i)) (nibble l (2 * i + 1)) ≡ at l i
pack_nibbles l i = ap₂ pack (nibble_even l i) (nibble_odd l i) ∙ omega arith

pub zero_area_lem : packed 256 (λ q. 0) ≡ zero_area
zero_area_lem =
    ext_get_or 0 (packed 256 (λ q. 0)) (replicate 256 0) (length_packed 256 _ ∙ sym (length-replicate {A = ℕ} 256 0))
    (λ i b.
    let c : i < 256 = omega (arith, length_packed 256 (λ q. 0)) in
    at_packed 256 (λ q. 0) i c ∙ sym (get_or-replicate {A = ℕ} 256 i 0 0 c))

module _ (E : ℕ → List ℕ) (perm : (n : ℕ) → Permutation (E n)) where
  pub shown_cond : (b : Bool) (n v : ℕ) → shown E (cond b (held n v) blank) < 16
  shown_cond true n v = encode_lt (perm n) v
  shown_cond false n v = omega arith

  -- two encoded nibbles that index a table, decoded again
  decode_pair : (i j u v : ℕ) → u < 16 → v < 16 → (f : ℕ → ℕ → ℕ)
      → f (decode (E i) (pack (encode (E i) u) (encode (E j) v) / 16)) (decode (E j) (pack (encode (E i) u) (encode (E j) v) % 16)) ≡ f u v
  decode_pair i j u v a b f =
      let x = encode (E i) u in
      let y = encode (E j) v in
      let c : y < 16 = encode_lt (perm j) v in
      let d : (x * 16 + y) / 16 ≡ x = omega arith in
      let e : (x * 16 + y) % 16 ≡ y = omega arith in
      rw (d, e, decode_encode (perm i) u a, decode_encode (perm j) v b)

  pair_lt : (i j u v : ℕ) → pack (encode (E i) u) (encode (E j) v) < 256
  pair_lt i j u v = omega (arith, encode_lt (perm i) u, encode_lt (perm j) v)

  module _ (L : Layer) (good : Good L) (N : Numbers) (l : List ℕ) (plain : Bytes l) where
    word : ℕ → List ℕ
    word p = L.word p (at l (L.source p))

    number : ℕ → ℕ → ℕ → ℕ
    number w d h = encoding_number L.width N.first w d h

    word_lt : (p h : ℕ) → nibble (word p) h < 16
    word_lt p h = nibble_lt (word p) (λ b. unfold word in good.bytes p (at l (L.source p)) b) h

    total_lt : (w d h : ℕ) → sum word w d h < 16
    total_lt w d h = sum_lt word (λ p b. unfold word in good.bytes p (at l (L.source p)) b) w d h

    -- nibble h of word w of the area, j lookups into the layer
    unfoldable pub cell : ℕ → ℕ → ℕ → ℕ
    cell j w h = shown E (due_in (values_in L l) N.first j w h)

    cell_held : (j w h d : ℕ) → w < j → w < 16 → added L.width (j - 16) w h ≡ d → cell j w h ≡ encode (E (number w d h)) (sum word w d h)
    unfolding cell due_in word number
    cell_held j w h d a b e = rw (lt-ltb w (min j 16) (omega arith), e)

    cell_blank : (j w h : ℕ) → min j 16 ≤ w → cell j w h ≡ 0
    unfolding cell due_in
    cell_blank j w h a = rw (le-ltb w (min j 16) a)

    unfoldable pub cells : ℕ → ℕ → ℕ
    cells j q = cell j (q / (2 * L.width)) (q % (2 * L.width))

    pub cells_lt : (j q : ℕ) → cells j q < 16
    unfolding cells cell due_in
    cells_lt j q = shown_cond (ltb (q / (2 * L.width)) (min j 16)) _ _

    pub cells_at : (j w h : ℕ) → h < 2 * L.width → cells j (place L.width w h) ≡ cell j w h
    unfolding cells
    cells_at j w h b = ap₂ (cell j) (at_div (2 * L.width) w h b) (at_mod (2 * L.width) w h b)

    -- ---- a spread lookup
    standing : ℕ → ℕ
    standing q = encode (E (N.standing q)) (nibble l q)

    -- the byte that it reads
    read : ℕ → ℕ
    read p = pack (standing (2 * L.source p)) (standing (2 * L.source p + 1))

    read_lt : (p : ℕ) → read p < 256
    unfolding read standing
    read_lt p = pair_lt _ _ _ _

    spread_entry_lem : (p h : ℕ) → spread_entry E L N p (read p) h ≡ encode (E (number p 0 h)) (nibble (word p) h)
    unfolding spread_entry read standing number word
    spread_entry_lem p h =
        let s = L.source p in
        decode_pair (N.standing (2 * s)) (N.standing (2 * s + 1)) (nibble l (2 * s)) (nibble l (2 * s + 1)) (nibble_lt l plain _) (nibble_lt l plain _)
        (λ a b. encode (E (encoding_number L.width N.first p 0 h)) (nibble (L.word p (pack a b)) h))
        ∙ ap (λ (x : ℕ). encode (E (encoding_number L.width N.first p 0 h)) (nibble (L.word p x) h)) (pack_nibbles l s)

    spread_step : (p : ℕ) → p < 16
        → spread_area L.width (L.source p) p (spread_table E L N p) (encoded E N.standing l) (packed 256 (cells p)) ≡ packed 256 (cells (suc p))
    unfolding spread_area spread_table encoded
    spread_step p b =
        ap (λ (y : ℕ). paste (packed 256 (cells p)) (p * m) (drop (y * m) (packed (256 * m) t)) m) is_read
        ∙ paste_packed 256 (256 * m) (cells p) t (cells (suc p)) (p * m) (read p * m) m
        (omega (arith, good.groups, mul-le-mul_right m b)) (omega (arith, mul-le-mul_right m (read_lt p))) lo hi mid
      where
        m : ℕ
        m = L.width

        t : ℕ → ℕ
        t q = spread_entry E L N p (q / (2 * m)) (q % (2 * m))

        is_read : at (packed 16 (λ q. encode (E (N.standing q)) (nibble l q))) (L.source p) ≡ read p
        is_read = unfold read in unfold standing in at_packed 16 (λ q. encode (E (N.standing q)) (nibble l q)) (L.source p) (good.reads p b)

        pos : 0 < 2 * m
        pos = omega (arith, good.groups)

        lo : (j : ℕ) → j < 2 * (p * m) → cells (suc p) j ≡ cells p j
        lo j h =
            let c : j / (2 * m) < p = (div-lt_iff_lt-mul pos).1 (omega arith) in
            unfold cells in
            cell_held (suc p) _ _ 0 (omega arith) (omega arith) (added_start m good.groups (suc p) _ _ b)
            ∙ sym (cell_held p _ _ 0 (omega arith) (omega arith) (added_start m good.groups p _ _ (omega arith)))

        hi : (j : ℕ) → j < 512 → 2 * (p * m + m) ≤ j → cells (suc p) j ≡ cells p j
        hi j h' h =
            let c : suc p ≤ j / (2 * m) = (le-div_iff_mul-le pos).1 (omega arith) in
            unfold cells in
            cell_blank (suc p) _ _ (omega arith) ∙ sym (cell_blank p _ _ (omega arith))

        mid : (h : ℕ) → h < 2 * m → cells (suc p) (2 * (p * m) + h) ≡ t (2 * (read p * m) + h)
        mid h c =
            let e : 2 * (p * m) + h ≡ p * (2 * m) + h = omega arith in
            let f : read p * (2 * m) + h ≡ 2 * (read p * m) + h = omega arith in
            ap (cells (suc p)) e ∙ cells_at (suc p) p h c
            ∙ cell_held (suc p) p h 0 (omega arith) b (added_start m good.groups (suc p) p h b)
            ∙ ap (encode (E (number p 0 h))) (sum_first word p h)
            ∙ sym (spread_entry_lem p h)
            ∙ ap₂ (spread_entry E L N p) (sym (at_div (2 * m) (read p) h c)) (sym (at_mod (2 * m) (read p) h c))
            ∙ ap t f

    -- ---- an XOR lookup
    cell_same : (i j w h : ℕ) → 16 ≤ i → 16 ≤ j → added L.width (i - 16) w h ≡ added L.width (j - 16) w h → cell i w h ≡ cell j w h
    unfolding cell due_in
    cell_same i j w h a b e =
        ap₂ (λ (n d : ℕ). shown E (cond (ltb w n) (held (encoding_number L.width N.first w d h) (sum (λ p. L.word p (at l (L.source p))) w d h)) blank))
        (let f : min i 16 ≡ min j 16 = omega arith in f) e

    -- Where an XOR table is read: the sum so far and the nibble that is added, both encoded.
    abbrev read_at : ℕ → ℕ → ℕ → ℕ
    read_at w d h = pack (encode (E (number w d h)) (sum word w d h)) (encode (E (number (w + suc d) 0 h)) (nibble (word (w + suc d)) h))

    xor_entry_lem : (w d h : ℕ) → nibble (packed 128 (xor_entry E L.width N.first w d h)) (read_at w d h)
        ≡ encode (E (number w (suc d) h)) (sum word w (suc d) h)
    unfolding xor_entry number
    xor_entry_lem w d h =
        nibble_packed 128 (xor_entry E L.width N.first w d h) (λ j. encode_lt (perm _) _) (read_at w d h) (pair_lt _ _ _ _)
        ∙ decode_pair (number w d h) (number (w + suc d) 0 h) (sum word w d h) (nibble (word (w + suc d)) h) (total_lt w d h) (word_lt (w + suc d) h)
        (λ a b. encode (E (number w (suc d) h)) (bit_xor a b))
        ∙ ap (encode (E (number w (suc d) h))) (sym (sum_next word w d h))

    xor_step : (x : ℕ) → x < xors L.width
        → xor_area L.width x (xor_table E L.width N.first x) (packed 256 (cells (16 + x))) ≡ packed 256 (cells (suc (16 + x)))
    unfolding xor_area xor_table
    xor_step x made =
        set_nibble_packed 256 (cells (16 + x)) (cells (suc (16 + x))) (cells_lt (16 + x)) (sum_place m x) _ (place_lt m good.groups w h w_lt h_in) is_new others
      where
        m : ℕ
        m = L.width

        w : ℕ
        w = sum_of m x

        d : ℕ
        d = added_of m x

        h : ℕ
        h = nibble_of m x

        with_lt : w + suc d < 16
        with_lt = added_word_lt m good.groups x made

        w_lt : w < 16
        w_lt = omega (arith, with_lt)

        h_in : h < 2 * m
        h_in = nibble_in m good.groups x

        back : 16 + x - 16 ≡ x
        back = omega arith

        back' : suc (16 + x) - 16 ≡ suc x
        back' = omega arith

        read_sum : nibble (packed 256 (cells (16 + x))) (sum_place m x) ≡ encode (E (number w d h)) (sum word w d h)
        read_sum =
            nibble_packed 256 (cells (16 + x)) (cells_lt (16 + x)) (sum_place m x) (place_lt m good.groups w h w_lt h_in) ∙ cells_at (16 + x) w h h_in
            ∙ cell_held (16 + x) w h d (omega (arith, w_lt)) w_lt (ap (λ (y : ℕ). added m y w h) back ∙ added_here m good.groups x)

        read_added : nibble (packed 256 (cells (16 + x))) (added_place m x) ≡ encode (E (number (w + suc d) 0 h)) (nibble (word (w + suc d)) h)
        read_added =
            nibble_packed 256 (cells (16 + x)) (cells_lt (16 + x)) (added_place m x) (place_lt m good.groups (w + suc d) h with_lt h_in)
            ∙ cells_at (16 + x) (w + suc d) h h_in
            ∙ cell_held (16 + x) (w + suc d) h 0 (omega (arith, with_lt)) with_lt (added_to_added m good.groups x _ h)
            ∙ ap (encode (E (number (w + suc d) 0 h))) (sum_first word (w + suc d) h)

        is_new : cells (suc (16 + x)) (sum_place m x)
            ≡ nibble (packed 128 (xor_entry E m N.first w d h))
            (pack (nibble (packed 256 (cells (16 + x))) (sum_place m x)) (nibble (packed 256 (cells (16 + x))) (added_place m x)))
        is_new =
            cells_at (suc (16 + x)) w h h_in
            ∙ cell_held (suc (16 + x)) w h (suc d) (omega (arith, w_lt)) w_lt (ap (λ (y : ℕ). added m y w h) back' ∙ added_next m good.groups x)
            ∙ sym (xor_entry_lem w d h)
            ∙ ap₂ (λ (a b : ℕ). nibble (packed 128 (xor_entry E m N.first w d h)) (pack a b)) (sym read_sum) (sym read_added)

        others : (j : ℕ) → j < 512 → (j ≡ sum_place m x → ⊥) → cells (suc (16 + x)) j ≡ cells (16 + x) j
        others j b ne =
            unfold cells in
            cell_same (suc (16 + x)) (16 + x) (j / (2 * m)) (j % (2 * m)) (omega arith) (omega arith)
            (ap (λ (y : ℕ). added m y (j / (2 * m)) (j % (2 * m))) back'
            ∙ added_other m good.groups x (j / (2 * m)) (j % (2 * m)) (mod-lt j (omega (arith, good.groups)))
            (λ p q. ne (sym (div-add-mod' j (2 * m)) ∙ ap₂ (place m) p q))
            ∙ sym (ap (λ (y : ℕ). added m y (j / (2 * m)) (j % (2 * m))) back))

    -- ---- the end of a layer
    end_nibble : (q : ℕ) → q < 32
        → cells (16 + xors L.width) (place L.width (q / (2 * L.width) * L.width) (q % (2 * L.width)))
        ≡ encode (E ((next_numbers L.width N).standing q)) (nibble (summed (values_in L l)) q)
    unfolding next_numbers number word
    end_nibble q b =
        cells_at (16 + xors m) w h hl
        ∙ cell_held (16 + xors m) w h (m - 1) (omega (arith, wl)) wl
        (ap (λ (y : ℕ). added m y w h) (let z : 16 + xors m - 16 ≡ xors m = omega arith in z) ∙ added_all m good.groups (q / (2 * m)) h cl)
        ∙ ap (encode (E (encoding_number m N.first w (m - 1) h))) (sym (nibble_summed (values_in L l) good.groups q b))
      where
        m : ℕ
        m = L.width

        w : ℕ
        w = q / (2 * m) * m

        h : ℕ
        h = q % (2 * m)

        pos : 0 < 2 * m
        pos = omega (arith, good.groups)

        hl : h < 2 * m
        hl = mod-lt q pos

        cl : q / (2 * m) < 16 / m
        cl = nibble_group m good.groups q b

        wl : w < 16
        wl = first_word_lt m good.groups (q / (2 * m)) cl

    -- byte q of the sums, as two nibbles of the area
    sum_place_lem : (q e : ℕ) → q < 16 → e < 2
        → 2 * (q / L.width * L.width * L.width + q % L.width) + e
        ≡ place L.width ((2 * q + e) / (2 * L.width) * L.width) ((2 * q + e) % (2 * L.width))
    sum_place_lem q e b el =
        omega arith
        ∙ ap₂ (λ (c n : ℕ). place m (c * m) n)
        (sym (ap (λ (y : ℕ). y / (2 * m)) j ∙ at_div (2 * m) (q / m) (2 * (q % m) + e) hl))
        (sym (ap (λ (y : ℕ). y % (2 * m)) j ∙ at_mod (2 * m) (q / m) (2 * (q % m) + e) hl))
      where
        m : ℕ
        m = L.width

        hl : 2 * (q % m) + e < 2 * m
        hl = omega (arith, mod-lt q (let z : 0 < m = omega (arith, good.groups) in z))

        j : 2 * q + e ≡ q / m * (2 * m) + (2 * (q % m) + e)
        j = omega (arith, div-add-mod' q m)

    sums_end : sums L.width (packed 256 (cells (16 + xors L.width))) ≡ encoded E (next_numbers L.width N).standing (summed (values_in L l))
    unfolding sums packed encoded
    sums_end =
        tabulate_ext 16 _ _
        (λ q b.
        at_packed 256 (cells (16 + xors L.width)) (q / L.width * L.width * L.width + q % L.width) (in_area q b)
        ∙ ap₂ pack
        (ap (cells (16 + xors L.width)) (omega arith ∙ sum_place_lem q 0 b (omega arith)) ∙ end_nibble (2 * q + 0) (omega arith)
        ∙ ap (λ (n : ℕ). encode (E ((next_numbers L.width N).standing n)) (nibble (summed (values_in L l)) n)) (omega arith))
        (ap (cells (16 + xors L.width)) (sum_place_lem q 1 b (omega arith)) ∙ end_nibble (2 * q + 1) (omega arith)))
      where
        in_area : (q : ℕ) → q < 16 → q / L.width * L.width * L.width + q % L.width < 256
        in_area q b =
            let pos : 0 < L.width = omega (arith, good.groups) in
            let wl : q / L.width * L.width < 16 = first_word_lt L.width good.groups (q / L.width) (word_group L.width good.groups q b) in
            omega (arith, good.groups, mul-le-mul_right L.width wl, mod-lt q pos)

    -- ---- the lookups of a layer
    abbrev pub layer_state : ℕ → ℕ → State
    layer_state from k = state_at (from + k) (encoded E N.standing l) (packed 256 (cells k))

    -- The area that lookup k makes over its table.
    pub area_step : (from k : ℕ) → k < layer_lookups L.width → area_in (shape_of L) k (table_in E L N k) (layer_state from k) ≡ packed 256 (cells (suc k))
    unfolding table_in
    area_step from k b = go (dec_lt k 16)
      where
        go : Dec (k < 16) → area_in (shape_of L) k (table_in E L N k) (layer_state from k) ≡ packed 256 (cells (suc k))
        go (yes c) = rw (lt-ltb k 16 c) (spread_step k c)
        go (no c) =
            let e : k ≡ 16 + (k - 16) = omega arith in
            rw (le-ltb k 16 (omega arith))
            (subst (λ (n : ℕ). xor_area L.width (k - 16) (xor_table E L.width N.first (k - 16)) (packed 256 (cells n)) ≡ packed 256 (cells (suc n))) (sym e)
            (xor_step (k - 16) (xor_in L.width k (omega arith) b)))

    -- What it leaves of that area, within the layer and as its last lookup.
    pub left_within : (from k : ℕ) → suc k < layer_lookups L.width → leaving (shape_of L) k (packed 256 (cells (suc k))) (layer_state from k) ≡ layer_state from (suc k)
    left_within from k b = go (dec_lt k 16)
      where
        more : suc (from + k) ≡ from + suc k
        more = omega arith

        go : Dec (k < 16) → leaving (shape_of L) k (packed 256 (cells (suc k))) (layer_state from k) ≡ layer_state from (suc k)
        go (yes c) = rw (lt-ltb k 16 c) (same_state more refl refl)
        go (no c) = rw (le-ltb k 16 (omega arith), ne_eqb (suc k) (layer_lookups L.width) (λ z. omega arith)) (same_state more refl refl)

    pub left_last : (from k : ℕ) → suc k ≡ layer_lookups L.width
        → leaving (shape_of L) k (packed 256 (cells (suc k))) (layer_state from k)
        ≡ state_at (from + layer_lookups L.width) (encoded E (next_numbers L.width N).standing (summed (values_in L l))) zero_area
    left_last from k b =
        let g : 16 ≤ k = omega (arith, layer_lookups_lem L.width, xors_pos L.width good.groups) in
        let f : suc k ≡ 16 + xors L.width = omega (arith, layer_lookups_lem L.width) in
        rw (le-ltb k 16 g, eq-eqb (suc k) (layer_lookups L.width) b)
        (same_state (omega arith) (ap (λ (n : ℕ). sums L.width (packed 256 (cells n))) f ∙ sums_end) refl)

    pub layer_start : packed 256 (cells 0) ≡ zero_area
    layer_start = packed_ext 256 (cells 0) (λ q. 0) (λ q b. unfold cells in cell_blank 0 (q / (2 * L.width)) (q % (2 * L.width)) (omega arith)) ∙ zero_area_lem
