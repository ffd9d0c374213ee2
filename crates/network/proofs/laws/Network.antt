-- Laws, not definitions: the network. Over any good layers and any permutations each lookup takes the closed form to the next, from the
-- start of any layer on.
-- Assumes nothing.
use mathlib.Core.List.{List, [], ◌∷◌, ◌++◌, map-map, map-append}
use mathlib.Core.Path.{◌≡◌, refl, sym, ap, ap₂, ◌∙◌}
use Prim.Native.Nat.{ℕ, zero, suc, ◌+◌, ◌-◌, ◌≤◌, ◌<◌}
use native.Mathlib.Decide.{dec_lt}
use native.Mathlib.Nat.{not-suc-le-zero}
use native.Mathlib.Omega.{arith}
use borrow.Author.Tests.{lt-ltb, le-ltb}
use Rattle.bits.proofs.laws.Encodings.{decode_lt, encode_decode}
use Rattle.bits.proofs.laws.Nibbles.{nibble_packed, packed_ext, packed_bytes, packed_nibbles, nibble_lt}
use Rattle.bits.specs.Bytes.{Bytes, Block}
use Rattle.bits.specs.Encodings.{encode}
use Rattle.bits.specs.Nibbles.{nibble, packed}
use Rattle.network.specs.Due.{summed, values_in, values_of, left_by, standing_due, area_due, due_state, closed, encoded, decoded}
use Rattle.network.specs.Lookups.{State, state_at, Shape, zero_area, leaving, lookup_in, lookup_at, lookup, walked}
use Rattle.network.specs.Numbers.{Numbers, next_numbers, start_numbers, numbers_after}
use Rattle.network.specs.Order.{layer_lookups}
use Rattle.network.specs.Sizes.{lookups_in}
use Rattle.network.specs.Tables.{Layer, AllGood, shape_of, widths_of, shapes_of, table_in, table_at}
use Rattle.network.specs.Theorems.{Permutations, FromAnyLayer, AtTheEnd}
use Rattle.network.proofs.laws.Bytes.{summed_block}
use Rattle.network.proofs.laws.Layers.{lookup_past, table_past}
use Rattle.network.proofs.laws.Order.{layer_lookups_lem}
use Rattle.network.proofs.laws.Steps.{same_state, zero_area_lem, cell, cells, layer_state, area_step, left_within, left_last, layer_start}

-- ---- the closed form inside the first layer, and past it
pub closed_past : (E : ℕ → List ℕ) (L : Layer) (Ls : List Layer) (N : Numbers) (l : List ℕ) (from k : ℕ) → layer_lookups L.width ≤ k
    → closed E (L ∷ Ls) N l from k ≡ closed E Ls (next_numbers L.width N) (summed (values_in L l)) (from + layer_lookups L.width) (k - layer_lookups L.width)
unfolding due_state values_of left_by standing_due area_due
closed_past E L Ls N l from k b =
    let e : from + k ≡ from + layer_lookups L.width + (k - layer_lookups L.width) = omega arith in
    rw (le-ltb k (layer_lookups L.width) b) (same_state e refl refl)

-- what stands between layers
abbrev rest : (ℕ → List ℕ) → Numbers → List ℕ → ℕ → State
rest E N l from = state_at from (encoded E N.standing l) zero_area

closed_none : (E : ℕ → List ℕ) (N : Numbers) (l : List ℕ) (from k : ℕ) → closed E [] N l from k ≡ rest E N l (from + k)
unfolding due_state values_of left_by standing_due area_due encoded
closed_none E N l from k = same_state refl refl zero_area_lem

module _ (E : ℕ → List ℕ) (perm : Permutations E) where
  pub closed_in : (L : Layer) (Ls : List Layer) (g : AllGood (L ∷ Ls)) (N : Numbers) (l : List ℕ) (b : Bytes l) (from k : ℕ) → k < layer_lookups L.width
      → closed E (L ∷ Ls) N l from k ≡ layer_state E perm L g.0 N l b from k
  unfolding due_state values_of left_by standing_due area_due encoded cells cell
  closed_in L Ls g N l b from k c = rw (lt-ltb k (layer_lookups L.width) c)

  closed_zero : (Ls : List Layer) → AllGood Ls → (N : Numbers) (l : List ℕ) → Bytes l → (from : ℕ) → closed E Ls N l from 0 ≡ rest E N l from
  closed_zero [] g N l b from = closed_none E N l from 0 ∙ same_state (omega arith) refl refl
  closed_zero (L ∷ Ls) g N l b from =
      closed_in L Ls g N l b from 0 (omega (arith, layer_lookups_lem L.width)) ∙ same_state (omega arith) refl (layer_start E perm L g.0 N l b)

  -- What a lookup leaves of the area of the next count is the closed form there, within the layer and behind it.
  pub layer_left : (L : Layer) (Ls : List Layer) (g : AllGood (L ∷ Ls)) (N : Numbers) (l : List ℕ) (b : Bytes l) (from k : ℕ) → k < layer_lookups L.width
      → leaving (shape_of L) k (packed 256 (cells E perm L g.0 N l b (suc k))) (layer_state E perm L g.0 N l b from k) ≡ closed E (L ∷ Ls) N l from (suc k)
  layer_left L Ls g N l b from k h = go (dec_lt (suc k) T)
    where
      T : ℕ
      T = layer_lookups L.width

      go : Dec (suc k < T)
          → leaving (shape_of L) k (packed 256 (cells E perm L g.0 N l b (suc k))) (layer_state E perm L g.0 N l b from k) ≡ closed E (L ∷ Ls) N l from (suc k)
      go (yes c) = left_within E perm L g.0 N l b from k c ∙ sym (closed_in L Ls g N l b from (suc k) c)
      go (no c) =
          let f : suc k - T ≡ 0 = omega arith in
          left_last E perm L g.0 N l b from k (omega arith)
          ∙ sym (closed_zero Ls g.1 (next_numbers L.width N) (summed (values_in L l)) (summed_block L g.0 l).bytes (from + T))
          ∙ ap (closed E Ls (next_numbers L.width N) (summed (values_in L l)) (from + T)) (sym f)
          ∙ sym (closed_past E L Ls N l from (suc k) (omega arith))

  pub one_lookup : (Ls : List Layer) → AllGood Ls → (N : Numbers) (l : List ℕ) → Bytes l → (from k : ℕ) → k < lookups_in (widths_of Ls)
      → lookup_at (shapes_of Ls) k (table_at E Ls N k) (closed E Ls N l from k) ≡ closed E Ls N l from (suc k)
  unfolding lookups_in lookup_in lookup_at table_at
  one_lookup [] g N l b from k h = absurd (not-suc-le-zero h)
  one_lookup (L ∷ Ls) g N l b from k h =
      go (dec_lt k T) (λ c. one_lookup Ls g.1 (next_numbers L.width N) (summed (values_in L l)) (summed_block L g.0 l).bytes (from + T) (k - T) c)
    where
      T : ℕ
      T = layer_lookups L.width

      go : Dec (k < T)
          → (k - T < lookups_in (widths_of Ls)
          → lookup_at (shapes_of Ls) (k - T) (table_at E Ls (next_numbers L.width N) (k - T)) (closed E Ls (next_numbers L.width N) (summed (values_in L l)) (from + T) (k - T))
          ≡ closed E Ls (next_numbers L.width N) (summed (values_in L l)) (from + T) (suc (k - T)))
          → lookup_at (shapes_of (L ∷ Ls)) k (table_at E (L ∷ Ls) N k) (closed E (L ∷ Ls) N l from k) ≡ closed E (L ∷ Ls) N l from (suc k)
      go (yes d) ih =
          let w : State = layer_state E perm L g.0 N l b from k in
          rw (lt-ltb k T d)
          (ap (lookup_in (shape_of L) k (table_in E L N k)) (closed_in L Ls g N l b from k d)
          ∙ ap (λ (a : List ℕ). leaving (shape_of L) k a w) (area_step E perm L g.0 N l b from k d)
          ∙ layer_left L Ls g N l b from k d)
      go (no d) ih =
          let f : suc k - T ≡ suc (k - T) = omega arith in
          rw (le-ltb k T (omega arith))
          (ap (lookup_at (shapes_of Ls) (k - T) (table_at E Ls (next_numbers L.width N) (k - T))) (closed_past E L Ls N l from k (omega arith))
          ∙ ih (omega arith)
          ∙ ap (closed E Ls (next_numbers L.width N) (summed (values_in L l)) (from + T)) (sym f)
          ∙ sym (closed_past E L Ls N l from (suc k) (omega arith)))

  -- n lookups more, in a network that has the layers As before
  module _ (As Bs : List Layer) (g : AllGood Bs) (l : List ℕ) (b : Bytes l) where
    abbrev pub from : ℕ
    from = lookups_in (widths_of As)

    abbrev pub N : Numbers
    N = numbers_after (widths_of As) start_numbers

    lookup_here : (k : ℕ) (t : List ℕ) (w : State) → lookup_at (shapes_of (As ++ Bs)) (from + k) t w ≡ lookup_at (shapes_of Bs) k t w
    lookup_here k t w =
        ap₂ (λ (Ss : List Shape) (ms : List ℕ). lookup_at Ss (lookups_in ms + k) t w) (map-append shape_of As Bs)
        (sym (map-map (λ (S : Shape). S.width) shape_of As))
        ∙ lookup_past (shapes_of As) (shapes_of Bs) k t w

    pub walked_on : (n k : ℕ) → k + n ≤ lookups_in (widths_of Bs)
        → walked (shapes_of (As ++ Bs)) (table_at E (As ++ Bs) start_numbers) n (closed E Bs N l from k) ≡ closed E Bs N l from (k + n)
    unfolding walked lookup
    walked_on zero k h = ap (closed E Bs N l from) (let e : k ≡ k + 0 = omega arith in e)
    walked_on (suc n) k h =
        ap (walked (shapes_of (As ++ Bs)) (table_at E (As ++ Bs) start_numbers) n)
        (count_is ∙ lookup_here k _ (closed E Bs N l from k) ∙ ap (λ (t : List ℕ). lookup_at (shapes_of Bs) k t (closed E Bs N l from k)) table_is
        ∙ one_lookup Bs g N l b from k (omega arith))
        ∙ walked_on n (suc k) (omega arith)
        ∙ ap (closed E Bs N l from) (let e : suc k + n ≡ k + suc n = omega arith in e)
      where
        table_is : table_at E (As ++ Bs) start_numbers (from + k) ≡ table_at E Bs N k
        table_is = table_past E As Bs start_numbers k

        count_is : lookup_at (shapes_of (As ++ Bs)) (closed E Bs N l from k).count (table_at E (As ++ Bs) start_numbers (closed E Bs N l from k).count) (closed E Bs N l from k)
            ≡ lookup_at (shapes_of (As ++ Bs)) (from + k) (table_at E (As ++ Bs) start_numbers (from + k)) (closed E Bs N l from k)
        count_is =
            unfold due_state in
            refl

    pub walked_from : (n : ℕ) → n ≤ lookups_in (widths_of Bs)
        → walked (shapes_of (As ++ Bs)) (table_at E (As ++ Bs) start_numbers) n (rest E N l from) ≡ closed E Bs N l from n
    walked_from n h =
        ap (walked (shapes_of (As ++ Bs)) (table_at E (As ++ Bs) start_numbers) n) (sym (closed_zero Bs g N l b from))
        ∙ walked_on n 0 (omega arith) ∙ ap (closed E Bs N l from) (let e : 0 + n ≡ n = omega arith in e)

  -- any standing bytes are the encoded bytes that decoding them gives
  pub decoded_bytes : (number : ℕ → ℕ) (s : List ℕ) → Bytes s → Bytes (decoded E number s)
  unfolding decoded
  decoded_bytes number s b = packed_bytes 16 _ (λ q h. decode_lt (E (number q)) (perm (number q)) (nibble s q) (nibble_lt s b q))

  pub encoded_decoded : (number : ℕ → ℕ) (s : List ℕ) → Block s → encoded E number (decoded E number s) ≡ s
  unfolding encoded decoded
  encoded_decoded number s b =
      packed_ext 16 _ (nibble s) (λ q h.
      ap (encode (E (number q))) (nibble_packed 16 _ (λ j. decode_lt (E (number j)) (perm (number j)) (nibble s j) (nibble_lt s b.bytes j)) q h)
      ∙ encode_decode (E (number q)) (perm (number q)) (nibble s q) (nibble_lt s b.bytes q))
      ∙ packed_nibbles 16 s b.long

pub closed_end : AtTheEnd
unfolding lookups_in numbers_after left_by
closed_end E [] N l from = closed_none E N l from 0
closed_end E (L ∷ Ls) N l from =
    let T = layer_lookups L.width in
    let e : T + lookups_in (widths_of Ls) - T ≡ lookups_in (widths_of Ls) = omega arith in
    closed_past E L Ls N l from (T + lookups_in (widths_of Ls)) (omega arith)
    ∙ ap (closed E Ls (next_numbers L.width N) (summed (values_in L l)) (from + T)) e
    ∙ closed_end E Ls (next_numbers L.width N) (summed (values_in L l)) (from + T)
    ∙ same_state (omega arith) refl refl

pub from_any_layer : FromAnyLayer
from_any_layer E perm As Bs g s b n h =
    let M : Numbers = numbers_after (widths_of As) start_numbers in
    ap (λ (x : List ℕ). walked (shapes_of (As ++ Bs)) (table_at E (As ++ Bs) start_numbers) n (state_at (lookups_in (widths_of As)) x zero_area))
    (sym (encoded_decoded E perm M.standing s b))
    ∙ walked_from E perm As Bs g (decoded E M.standing s) (decoded_bytes E perm M.standing s b.bytes) n h
