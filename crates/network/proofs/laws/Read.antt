-- Laws, not definitions: the place that a lookup reads. Standing bytes are below 256 and nibbles below 16, so the entry lies within its table, and
-- what is read from the table there is read from the memory that the table is a part of.
-- Assumes nothing.
use mathlib.Core.List.{List, [], ◌∷◌, ◌++◌}
use mathlib.Core.Path.{◌≡◌, refl, ap, ◌∙◌}
use Prim.Native.Nat.{ℕ, ◌+◌, ◌-◌, ◌*◌, ◌/◌, ◌%◌, ◌≤◌, ◌<◌}
use native.Mathlib.Decide.{dec_lt}
use native.Mathlib.Omega.{arith}
use borrow.Author.Tests.{lt-ltb, le-ltb}
use lib.ListN.{take, drop}
use lib.Seq.{get_or-take, get_or-drop, take-take, drop-drop}
use Rattle.bits.specs.Bytes.{Bytes}
use Rattle.bits.specs.Lists.{at}
use Rattle.bits.specs.Nibbles.{half, nibble, set_nibble}
use Rattle.bits.proofs.laws.Lists.{drop_take}
use Rattle.bits.proofs.laws.Multiples.{row_inside}
use Rattle.bits.proofs.laws.Nibbles.{nibble_lt}
use Rattle.network.specs.Lookups.{State, Shape, spread_area, xor_index, xor_area, area_in, leaving, lookup_in}
use Rattle.network.specs.Order.{layer_lookups, sum_place, added_place}
use Rattle.network.specs.Read.{word_place, nibble_place, read_in, read_at, area_from, lookup_from, entry_bytes}
use Rattle.network.specs.Sizes.{size_of, lookups_in}
use Rattle.network.specs.Theorems.{WithinTable, ReadsItsTable, PutsWhatItReads}
use Rattle.network.proofs.laws.Layers.{widths_in, past}
use Rattle.network.proofs.laws.Sizes.{spread_size, xor_size}

-- ---- the two kinds of entry
module _ (S : Shape) (j from : ℕ) (s a : List ℕ) where
  pub read_spread : j < 16 → read_in S j from s a ≡ word_place from S.width (at s (S.source j))
  unfolding read_in
  read_spread h = rw (lt-ltb j 16 h)

  pub read_xor : 16 ≤ j → read_in S j from s a ≡ nibble_place from (xor_index S.width (j - 16) a)
  unfolding read_in
  read_xor h = rw (le-ltb j 16 h)

-- ---- they lie within their tables
module _ (m j from : ℕ) where
  word_bytes : j < 16 → entry_bytes m j ≡ m
  word_bytes h = rw (lt-ltb j 16 h)

  nibble_bytes : 16 ≤ j → entry_bytes m j ≡ 1
  nibble_bytes h = rw (le-ltb j 16 h)

  pub word_within : (x : ℕ) → j < 16 → x * m + m ≤ 256 * m → WithinTable m j from (word_place from m x)
  word_within x h e =
      record { least = omega arith; most = omega (arith, word_bytes h, spread_size m j h); half = omega arith; spread = λ k. refl }

  pub nibble_within : (e : ℕ) → 16 ≤ j → e < 256 → WithinTable m j from (nibble_place from e)
  nibble_within e h b =
      record { least = omega arith; most = omega (arith, nibble_bytes h, xor_size m j h); half = omega arith; spread = λ k. absurd (omega arith) }

  -- And the other way round.
  within_word : (x : ℕ) → j < 16 → WithinTable m j from (word_place from m x) → x * m + m ≤ 256 * m
  within_word x h T = omega (arith, T.most, word_bytes h, spread_size m j h)

  within_nibble : (e : ℕ) → 16 ≤ j → WithinTable m j from (nibble_place from e) → e / 2 < 128
  within_nibble e h T = omega (arith, T.most, nibble_bytes h, xor_size m j h)

index_lt : (m x : ℕ) (area : List ℕ) → Bytes area → xor_index m x area < 256
index_lt m x area b = omega (arith, nibble_lt area b (sum_place m x), nibble_lt area b (added_place m x))

pub reads_its_table : ReadsItsTable
reads_its_table S j from standing area bs ba = elim (dec_lt j 16) [
  | yes l ↦ rw (read_spread S j from standing area l) (word_within S.width j from _ l (row_inside _ S.width 256 (bs (S.source j))))
  | no l ↦
      let k : 16 ≤ j = omega arith in
      rw (read_xor S j from standing area k) (nibble_within S.width j from _ k (index_lt S.width (j - 16) area ba))
]

-- ---- a part of a memory, read at a place of the part
module _ (from size : ℕ) (mem : List ℕ) where
  word_there : (a m : ℕ) → a + m ≤ size → take m (drop a (take size (drop from mem))) ≡ take m (drop (from + a) mem)
  word_there a m h =
      ap (take m) (drop_take a size (drop from mem))
      ∙ take-take m (size - a) (drop a (drop from mem)) (omega arith)
      ∙ ap (take m) (drop-drop a from mem)

  byte_there : (i : ℕ) → i < size → at (take size (drop from mem)) i ≡ at mem (from + i)
  byte_there i h = get_or-take size (drop from mem) i 0 h ∙ get_or-drop from mem i 0

-- ---- what a lookup puts into the area stands there
area_there : (S : Shape) (j from : ℕ) (mem : List ℕ) (w : State) → WithinTable S.width j from (read_in S j from w.standing w.area)
    → area_in S j (take (size_of S.width j) (drop from mem)) w ≡ area_from S j mem (read_in S j from w.standing w.area) w
area_there S j from mem w T = elim (dec_lt j 16) [
  | yes l ↦
      let m = S.width in
      let x = at w.standing (S.source j) in
      let read = read_spread S j from w.standing w.area l in
      let ends = within_word m j from x l (rw read at T) in
      rw (read, lt-ltb j 16 l) (unfold spread_area in
      ap (λ (word : List ℕ). take (j * m) w.area ++ word ++ drop (j * m + m) w.area) (word_there from (256 * m) mem (x * m) m ends))
  | no l ↦
      let k : 16 ≤ j = omega arith in
      let e = xor_index S.width (j - 16) w.area in
      let read = read_xor S j from w.standing w.area k in
      let ends = within_nibble S.width j from e k (rw read at T) in
      rw (read, le-ltb j 16 k) (unfold xor_area nibble in
      ap (λ (b : ℕ). set_nibble w.area (sum_place S.width (j - 16)) (half (e % 2) b)) (byte_there from 128 mem (e / 2) ends))
]

pub puts_what_it_reads : PutsWhatItReads
unfolding lookup_in lookup_from
puts_what_it_reads S j from mem w T = ap (λ (a : List ℕ). leaving S j a w) (area_there S j from mem w T)

-- ---- in layers one after the other, as of lookups in Layers.antt
pub read_past : (As Bs : List Shape) (k from : ℕ) (standing area : List ℕ)
    → read_at (As ++ Bs) (lookups_in (widths_in As) + k) from standing area ≡ read_at Bs k from standing area
unfolding read_at lookups_in
read_past [] Bs k from standing area = ap (λ (n : ℕ). read_at Bs n from standing area) (let e : 0 + k ≡ k = omega arith in e)
read_past (S ∷ As) Bs k from standing area =
    rw (le-ltb (layer_lookups S.width + lookups_in (widths_in As) + k) (layer_lookups S.width) (omega arith), past (layer_lookups S.width) (lookups_in (widths_in As)) k)
    (read_past As Bs k from standing area)

pub read_first : (S : Shape) (Bs : List Shape) (k from : ℕ) (standing area : List ℕ) → k < layer_lookups S.width
    → read_at (S ∷ Bs) k from standing area ≡ read_in S k from standing area
unfolding read_at
read_first S Bs k from standing area b = rw (lt-ltb k (layer_lookups S.width) b)
