-- Laws, not definitions: spread lookups and pairs of XOR lookups of a stage or half over the memory of a set, and the words of its groups.
-- Assumes nothing.
use mathlib.Core.List.{List}
use mathlib.Core.Logic.{⊎_elim}
use mathlib.Core.Path.{◌≡◌, refl, sym, ap, ap₂, ◌∙◌, subst}
use Prim.Native.Nat.{ℕ, zero, suc, ◌+◌, ◌-◌, ◌*◌, ◌/◌, ◌%◌, ◌≤◌, ◌<◌, min}
use native.Mathlib.Nat.{add-zero}
use native.Mathlib.Omega.{arith}
use borrow.Author.Tests.{lt-ltb, le-ltb}
use lib.ListN.{length, take, drop}
use Rattle.bits.specs.Lists.{at}
use Rattle.bits.specs.Nibbles.{nibble, set_nibble, pack}
use Rattle.bits.proofs.laws.Lists.{cut, cut_is}
use Rattle.bits.proofs.laws.Multiples.{row_inside}
use Rattle.bits.proofs.laws.Nibbles.{nibble_even}
use Rattle.network.specs.Lookups.{Shape, spread_area, xor_index, xor_area}
use Rattle.network.specs.Order.{xors, sum_place, added_place}
use Rattle.network.specs.Sizes.{layer_bytes}
use Rattle.network.proofs.laws.Order.{at_div, at_mod}
use Rattle.lookups.specs.InPlace.{Width, SpreadRead, xor_byte}
use Rattle.lookups.specs.Layer.{WordIn, WordAt, SpreadMade, table_from, xors_in, word_first, group_xors}
use Rattle.lookups.specs.declared.layer.Word.{Word}
use Rattle.lookups.proofs.laws.Area.{both_entry, xor_both}
use Rattle.lookups.proofs.laws.Layers.{xor_at, length_xor}

-- ---- the parts of the memory that the tables of a layer are
module _ (set : List ℕ) (from m k : ℕ) where
  pub spread_table : k < 16 → table_from m set from k ≡ take (256 * m) (drop (from + k * (256 * m)) set)
  spread_table h =
      let e : min k 16 ≡ k = omega arith in
      let f : from + (k * (256 * m) + (k - 16) * 128) ≡ from + k * (256 * m) = omega arith in
      rw (lt-ltb k 16 h, e, f)

  pub xor_table_lem : (x : ℕ) → x ≡ from + 4096 * m + k * 128 → table_from m set from (16 + k) ≡ take 128 (drop x set)
  xor_table_lem x h =
      let e : min (16 + k) 16 ≡ 16 = omega arith in
      let f : from + (16 * (256 * m) + (16 + k - 16) * 128) ≡ x = omega arith in
      rw (le-ltb (16 + k) 16 (omega arith), e, f)

-- ---- a spread lookup
-- In memory of that length the tables of the spread lookups end, where those of the whole layer do, and so does the table of lookup p.
pub spreads_room : (from m bytes : ℕ) → from + layer_bytes m ≤ bytes → from + 4096 * m ≤ bytes
unfolding layer_bytes
spreads_room from m bytes h = omega arith

pub table_ends : (from m p bytes : ℕ) → from + layer_bytes m ≤ bytes → p < 16 → from + p * (256 * m) + 256 * m ≤ bytes
table_ends from m p bytes h k = omega (arith, spreads_room from m bytes h, row_inside p (256 * m) 16 k)

pub spread_made : {S : Shape} {set : List ℕ} {from m p : ℕ} {s a : List ℕ} {i w : ℕ} {a' : List ℕ} → m ≡ S.width → from + layer_bytes m ≤ length set → p < 16 → i ≡ S.source p
    → SpreadRead (cut set (from + p * (256 * m)) (from + p * (256 * m) + 256 * m)) m p (at s i) a w a' → SpreadMade S set from p s a (from + p * (256 * m) + w) a'
unfolding spread_area
spread_made {S} {set} {from} {m} {p} e r h f g =
    let low : min p 16 ≡ p = omega arith in
    record {
      word = rw (sym e, sym f, g.word, low) (omega arith);
      ends = rw (sym e) (omega (arith, g.ends, table_ends from m p (length set) r h));
      area = rw (sym e, sym f) (g.area ∙ rw (cut_is set (from + p * (256 * m)) (256 * m), sym (spread_table set from m p h)) refl);
    }

-- ---- word t of group g: what `word_in` works out
pub record Room (m g t : ℕ) : Type 0 where
  pub behind : m ≤ t * m
  pub inside : g * m * m + t * m + m ≤ 256
  pub tables : (g * (m - 1) + t - 1) * (256 * m) ≡ 128 * word_first m g t
  pub ends : 4096 * m + 128 * word_first m g t + 256 * m ≤ layer_bytes m

bytes_4 : layer_bytes 4 ≡ 28672
unfolding layer_bytes xors
bytes_4 = refl

bytes_16 : layer_bytes 16 ≡ 126976
unfolding layer_bytes xors
bytes_16 = refl

room_4 : (g t : ℕ) → g < 4 → 0 < t → t < 4 → Room 4 g t
room_4 g t h s k =
    record {
      behind = omega arith;
      inside = omega arith;
      tables = omega arith;
      ends = omega (arith, bytes_4);
    }

room_16 : (g t : ℕ) → g < 1 → 0 < t → t < 16 → Room 16 g t
room_16 g t h s k =
    record {
      behind = omega arith;
      inside = omega arith;
      tables = omega arith;
      ends = omega (arith, bytes_16);
    }

pub word_room : {m g t : ℕ} → WordIn m g t → Room m g t
word_room {m} {g} {t} w =
    ⊎_elim
    (λ e. subst (λ (m : ℕ). Room m g t) (sym e) (room_4 g t (subst (λ (m : ℕ). g < 16 / m) e w.group) w.some (subst (λ (m : ℕ). t < m) e w.within)))
    (λ e. subst (λ (m : ℕ). Room m g t) (sym e) (room_16 g t (subst (λ (m : ℕ). g < 16 / m) e w.group) w.some (subst (λ (m : ℕ). t < m) e w.within)))
    w.width

pub word_at : {m g t : ℕ} → WordIn m g t
    → WordAt m g t (record { sum = g * m * m; added = g * m * m + t * m; tables = 4096 * m + (g * (m - 1) + t - 1) * (256 * m) })
word_at {m} w =
    let R = word_room w in
    record {
      sum = refl;
      added = refl;
      behind = omega (arith, R.behind);
      inside = R.inside;
      tables = ap (λ (x : ℕ). 4096 * m + x) R.tables;
      ends = omega (arith, R.tables, R.ends);
    }

-- ---- the two widths
module _ {m : ℕ} (k : Width m) where
  -- What holds at both.
  pub by_width : (P : ℕ → Type 0) → P 4 → P 16 → P m
  by_width P p q = ⊎_elim (λ e. subst P (sym e) p) (λ e. subst P (sym e) q) k

  -- A group has some XOR lookups, and all groups have all of them.
  pub some_xors : 0 < group_xors m
  some_xors = by_width (λ m. 0 < group_xors m) (omega arith) (omega arith)

  pub all_groups : xors m ≡ 16 / m * group_xors m
  unfolding xors
  all_groups = by_width (λ m. xors m ≡ 16 / m * group_xors m) refl refl

-- ---- the two XOR lookups of byte i of word t of group g, of which x is the first
module _ {m g t : ℕ} {r : Word} (w : WordIn m g t) (W : WordAt m g t r) (i : ℕ) (h : i < m) where
  abbrev pair_first : ℕ
  pair_first = i * 2 + word_first m g t

  turns : ℕ
  turns = g * (m - 1) + (t - 1)

  in_turns : (q : ℕ) → i * 2 + q + word_first m g t ≡ turns * (2 * m) + (i * 2 + q)
  unfolding turns
  in_turns q = omega arith

  group_is : turns / (m - 1) ≡ g
  unfolding turns
  group_is = at_div (m - 1) g (t - 1) (omega (arith, w.some, w.within))

  word_is : turns % (m - 1) ≡ t - 1
  unfolding turns
  word_is = at_mod (m - 1) g (t - 1) (omega (arith, w.some, w.within))

  -- Their places in the area, for the high nibble (q is 0) and the low one (1).
  places : (q x : ℕ) → q < 2 → x ≡ i * 2 + q + word_first m g t → (2 * (r.sum + i) + q ≡ sum_place m x) × (2 * (r.added + i) + q ≡ added_place m x)
  places q x b e =
      let turn : x / (2 * m) ≡ turns = ap (λ (y : ℕ). y / (2 * m)) (e ∙ in_turns q) ∙ at_div (2 * m) turns (i * 2 + q) (omega arith) in
      let nib : x % (2 * m) ≡ i * 2 + q = ap (λ (y : ℕ). y % (2 * m)) (e ∙ in_turns q) ∙ at_mod (2 * m) turns (i * 2 + q) (omega arith) in
      let word : suc (t - 1) ≡ t = omega (arith, w.some) in
      (rw (turn, nib, group_is, W.sum) (omega arith), rw (turn, nib, group_is, word_is, word, W.added, W.sum) (omega arith))

  -- In an area a, over their tables: the entry that the first reads, the one that the second reads, and what both leave.
  module _ (high low a : List ℕ) (long : length a ≡ 256) where
    abbrev first : List ℕ
    first = xor_area m (0 + pair_first) high a

    high_place : (2 * (r.sum + i) ≡ sum_place m (0 + pair_first)) × (2 * (r.added + i) ≡ added_place m (0 + pair_first))
    high_place =
        let p = places 0 (0 + pair_first) (omega arith) (omega arith) in
        (sym (add-zero (2 * (r.sum + i))) ∙ p.0, sym (add-zero (2 * (r.added + i))) ∙ p.1)

    low_place : (2 * (r.sum + i) + 1 ≡ sum_place m (1 + pair_first)) × (2 * (r.added + i) + 1 ≡ added_place m (1 + pair_first))
    low_place = places 1 (1 + pair_first) (omega arith) (omega arith)

    made : first ≡ set_nibble a (2 * (r.sum + i)) (nibble high (pack (nibble a (2 * (r.sum + i))) (nibble a (2 * (r.added + i)))))
    made = sym (xor_at m (0 + pair_first) (2 * (r.sum + i)) (2 * (r.added + i)) high a high_place.0 high_place.1)

    inside : r.sum + i < length a
    inside = omega (arith, W.behind, W.inside)

    apart : r.added + i ≡ r.sum + i → ⊥
    apart e = omega (arith, W.behind)

    pub pair_first_lem : pack (at a (r.sum + i) / 16) (at a (r.added + i) / 16) ≡ xor_index m (0 + pair_first) a
    pair_first_lem =
        ap₂ pack (sym (nibble_even a (r.sum + i))) (sym (nibble_even a (r.added + i)))
        ∙ ap₂ (λ (p q : ℕ). pack (nibble a p) (nibble a q)) high_place.0 high_place.1

    pub pair_second : pack (at a (r.sum + i) % 16) (at a (r.added + i) % 16) ≡ xor_index m (1 + pair_first) first
    pair_second =
        both_entry high low a (r.sum + i) (r.added + i) inside apart first made
        ∙ ap₂ (λ (p q : ℕ). pack (nibble first p) (nibble first q)) low_place.0 low_place.1

    pub pair_area : xor_byte high low (r.sum + i) (r.added + i) a ≡ xor_area m (1 + pair_first) low first
    pair_area =
        xor_both high low a (r.sum + i) (r.added + i) inside apart first made
        ∙ xor_at m (1 + pair_first) (2 * (r.sum + i) + 1) (2 * (r.added + i) + 1) low first low_place.0 low_place.1

  -- Their tables in the memory of a set, where those of the layer begin at byte `from`: they begin at byte `start` and lie one behind the other.
  module _ (set : List ℕ) (from start : ℕ) (s : start ≡ from + r.tables + i * 256) (room : from + layer_bytes m ≤ length set) where
    pub high_table : take 128 (drop start set) ≡ table_from m set from (16 + (0 + pair_first))
    high_table = sym (xor_table_lem set from m (0 + pair_first) start (omega (arith, s, W.tables)))

    pub low_table : take 128 (drop (start + 128) set) ≡ table_from m set from (16 + (1 + pair_first))
    low_table = sym (xor_table_lem set from m (1 + pair_first) (start + 128) (omega (arith, s, W.tables)))

-- ---- XOR lookups one behind the other, over the memory of a set
module _ (m : ℕ) (set : List ℕ) (from x : ℕ) where
  pub length_xors : (k : ℕ) (a : List ℕ) → length (xors_in m set from x k a) ≡ length a
  unfolding xors_in
  length_xors zero a = refl
  length_xors (suc k) a = length_xor m (k + x) _ (xors_in m set from x k a) ∙ length_xors k a

  -- The first k, and then l more.
  pub xors_split : (k l : ℕ) (a : List ℕ) → xors_in m set from x (k + l) a ≡ xors_in m set from (k + x) l (xors_in m set from x k a)
  unfolding xors_in
  xors_split k zero a = ap (λ (n : ℕ). xors_in m set from x n a) (add-zero k)
  xors_split k (suc l) a =
      let e : k + suc l ≡ suc (k + l) = omega arith in
      let f : k + l + x ≡ l + (k + x) = omega arith in
      ap (λ (n : ℕ). xors_in m set from x n a) e
      ∙ ap₂ (λ (y : ℕ) (b : List ℕ). xor_area m y (table_from m set from (16 + y)) b) f (xors_split k l a)

-- From the first on, one lookup more.
pub xors_next : (m : ℕ) (set : List ℕ) (from k : ℕ) (a : List ℕ)
    → xors_in m set from 0 (suc k) a ≡ xor_area m k (table_from m set from (16 + k)) (xors_in m set from 0 k a)
unfolding xors_in
xors_next m set from k a = ap (λ (y : ℕ). xor_area m y (table_from m set from (16 + y)) (xors_in m set from 0 k a)) (add-zero k)
