-- Laws, not definitions: what a lookup puts down, by the place that it reads. It copies a word to its place in the area, or puts a nibble to its place there; the last
-- lookup of a stage or half leaves the sums of that area instead, and the last nibble of the sums is the one that it put down. The area has 256 bytes all the way,
-- since no lookup of bytes reads past the set.
-- Assumes nothing.
use mathlib.Core.List.{List}
use mathlib.Core.Logic.{⊎_elim, ◌⊎◌}
use mathlib.Core.Path.{◌≡◌, refl, ap, ◌∙◌}
use Prim.Native.Nat.{ℕ, zero, suc, ◌+◌, ◌-◌, ◌*◌, ◌/◌, ◌≤◌, ◌<◌}
use native.Mathlib.Decide.{ℕ_discrete, dec_lt}
use native.Mathlib.Omega.{arith}
use borrow.Author.Tests.{eq-eqb, ne_eqb, lt-ltb, le-ltb}
use lib.ListN.{length, drop, length-set, length-drop, length-replicate}
use lib.Seq.{get_or-drop, paste, length-paste}
use Rattle.bits.specs.Bytes.{Bytes}
use Rattle.bits.specs.Lists.{at, tabulate}
use Rattle.bits.specs.Nibbles.{half, nibble, set_nibble}
use Rattle.bits.proofs.laws.Multiples.{row_inside}
use Rattle.bits.proofs.laws.Nibbles.{half_lt, nibble_set}
use Rattle.bits.proofs.laws.Pasted.{paste_first}
use Rattle.network.specs.Lookups.{State, state_at, Shape, sums, zero_area}
use Rattle.network.specs.Order.{GoodWidth, layer_lookups, sum_place}
use Rattle.network.specs.Read.{lookup_from, entry_bytes}
use Rattle.network.specs.declared.EntryPlace.{EntryPlace}
use Rattle.network.proofs.laws.Order.{layer_lookups_lem, xor_in, xors_pos, sum_inside}
use Rattle.layout.specs.Stages.{shape_at, lookups, set_bytes, stage_of, index_of}
use Rattle.layout.proofs.laws.Instance.{ends_in_tables}
use Rattle.layout.proofs.laws.Lookup.{tables_in_set}
use Rattle.layout.proofs.laws.Ranges.{in_stage, by_stage}
use Rattle.layout.proofs.laws.Stages.{either_good, lookups_16, lookups_4}
use Rattle.calls.specs.Calls.{advance, read_next}
use Rattle.calls.specs.PlaceRead.{OfBytes}
use Rattle.calls.proofs.laws.Calls.{advance_count}
use Rattle.calls.proofs.laws.KeepsBytes.{zero_bytes, advance_bytes}
use Rattle.calls.proofs.laws.PlaceRead.{place_was_read}

-- ---- the last XOR lookup of a stage or half
-- It puts its nibble where the last one of the sums comes from.
pub last_sum : (m j : ℕ) (a : List ℕ) → (m ≡ 4) ⊎ (m ≡ 16) → suc j ≡ layer_lookups m → nibble (sums m a) 31 ≡ nibble a (sum_place m (j - 16))
unfolding nibble sums tabulate
last_sum m j a k e = ⊎_elim of_4 of_16 k
  where
    of_4 : m ≡ 4 → nibble (sums m a) 31 ≡ nibble a (sum_place m (j - 16))
    of_4 f =
        let x : j - 16 ≡ 95 = omega (arith, lookups_4, ap layer_lookups f) in
        rw (f, x) refl

    of_16 : m ≡ 16 → nibble (sums m a) 31 ≡ nibble a (sum_place m (j - 16))
    of_16 f =
        let x : j - 16 ≡ 479 = omega (arith, lookups_16, ap layer_lookups f) in
        rw (f, x) refl

-- ---- one lookup, said by the place r that it reads in a memory
module _ (S : Shape) (j : ℕ) (mem : List ℕ) (r : EntryPlace) (w : State) where
  abbrev pub m : ℕ
  m = S.width

  -- The area with the word that stands there, and with the nibble.
  abbrev pub with_word : List ℕ
  with_word = paste w.area (j * m) (drop r.offset mem) m

  abbrev pub nibble_read : ℕ
  nibble_read = half r.half (at mem r.offset)

  abbrev pub with_nibble : List ℕ
  with_nibble = set_nibble w.area (sum_place m (j - 16)) nibble_read

  -- The three kinds of lookup.
  pub by_spread : j < 16 → lookup_from S j mem r w ≡ state_at (suc w.count) w.standing with_word
  unfolding lookup_from
  by_spread h = rw (lt-ltb j 16 h)

  pub by_xor : 16 ≤ j → (suc j ≡ layer_lookups m → ⊥) → lookup_from S j mem r w ≡ state_at (suc w.count) w.standing with_nibble
  unfolding lookup_from
  by_xor h n = rw (le-ltb j 16 h, ne_eqb (suc j) (layer_lookups m) n)

  pub by_last : 16 ≤ j → suc j ≡ layer_lookups m → lookup_from S j mem r w ≡ state_at (suc w.count) (sums m with_nibble) zero_area
  unfolding lookup_from
  by_last h e = rw (le-ltb j 16 h, eq-eqb (suc j) (layer_lookups m) e)

  -- It is a lookup of a stage or half, it reads within the memory, and the area before it has 256 bytes.
  pub record Whole : Type 0 where
    pub width : (m ≡ 4) ⊎ (m ≡ 16)
    pub index : j < layer_lookups m
    pub ends : r.offset + entry_bytes m j ≤ length mem
    pub long : length w.area ≡ 256

  module _ (W : Whole) where
    pub good : GoodWidth m
    good = either_good m W.width

    -- A word that it reads lies in the memory, and the word's place in the area.
    pub word_read : j < 16 → m ≤ length (drop r.offset mem)
    word_read h =
        let word : entry_bytes m j ≡ m = rw (lt-ltb j 16 h) refl in
        omega (arith, W.ends, word, length-drop r.offset mem)

    pub word_room : j < 16 → j * m + m ≤ length w.area
    word_room h = omega (arith, W.long, row_inside j m 16 h, good.most)

    -- The place of a nibble lies in the area too.
    pub nibble_room : 16 ≤ j → sum_place m (j - 16) / 2 < length w.area
    nibble_room h = omega (arith, W.long, sum_inside m good (j - 16) (xor_in m j h W.index))

    -- The last lookup is no spread lookup.
    pub xor_last : suc j ≡ layer_lookups m → 16 ≤ j
    xor_last e = omega (arith, layer_lookups_lem m, xors_pos m good)

    -- The area after it has 256 bytes.
    long_nibble : length with_nibble ≡ 256
    unfolding set_nibble
    long_nibble = length-set w.area _ _ ∙ W.long

    long_after : length (lookup_from S j mem r w).area ≡ 256
    long_after = elim (dec_lt j 16) [
      | yes h ↦ rw (by_spread h) (length-paste w.area (j * m) (drop r.offset mem) m (word_room h) (word_read h) ∙ W.long)
      | no h ↦ elim (ℕ_discrete (suc j) (layer_lookups m)) [
        | yes e ↦ rw (by_last (xor_last e) e) (length-replicate {A = ℕ} 256 0)
        | no n ↦ rw (by_xor (let l : 16 ≤ j = omega arith in l) n) long_nibble
      ]
    ]

    -- The word and the nibble stand at their places in that area.
    pub word_put : j < 16 → at with_word (j * m) ≡ at mem r.offset
    word_put h =
        paste_first w.area (j * m) (drop r.offset mem) m (omega (arith, word_room h)) (word_read h) (omega (arith, good.wide))
        ∙ get_or-drop r.offset mem 0 0
        ∙ ap (at mem) (let e : r.offset + 0 ≡ r.offset = omega arith in e)

    pub nibble_put : Bytes mem → 16 ≤ j → nibble with_nibble (sum_place m (j - 16)) ≡ nibble_read
    nibble_put b h = nibble_set w.area (sum_place m (j - 16)) nibble_read (nibble_room h) (half_lt r.half (at mem r.offset) (b r.offset))

-- ---- lookups one after the other, over a set's memory of bytes
-- A state of bytes, whose area has 256.
pub record WholeState (s : State) : Type 0 where
  pub of_bytes : OfBytes s
  pub area : length s.area ≡ 256

module _ (reads : ℕ → ℕ) (nr : ℕ) (mem : List ℕ) (long : length mem ≡ set_bytes nr) (bytes : Bytes mem) where
  module _ (s : State) (B : WholeState s) (h : s.count < lookups nr) where
    abbrev pub S : Shape
    S = shape_at reads (stage_of nr s.count)

    abbrev pub j : ℕ
    j = index_of nr s.count

    -- The next lookup, by the place that it reads.
    pub next_is : advance reads nr mem 1 s ≡ lookup_from S j mem (read_next reads nr s) s
    unfolding advance
    next_is = (place_was_read.lookups reads nr mem s B.of_bytes h).value

    -- The place lies in its table, and so in the memory.
    pub next_whole : Whole S j mem (read_next reads nr s) s
    unfolding index_of
    next_whole =
        let L = in_stage nr s.count h in
        let table = (place_was_read.lookups reads nr mem s B.of_bytes h).table in
        record {
          width = L.width;
          index = L.within;
          ends = omega (arith, table.most, (by_stage nr).size_is s.count h, ends_in_tables nr s.count h, tables_in_set nr, long);
          long = B.area;
        }

    -- After it the state is such a one too.
    next_whole_state : WholeState (advance reads nr mem 1 s)
    next_whole_state = record {
      of_bytes = advance_bytes reads nr mem bytes 1 s B.of_bytes;
      area = rw next_is (long_after S j mem (read_next reads nr s) s next_whole);
    }

  -- So it is after any number of lookups.
  pub stays_whole : (n : ℕ) (s : State) → WholeState s → s.count + n ≤ lookups nr → WholeState (advance reads nr mem n s)
  unfolding advance
  stays_whole zero s B h = B
  stays_whole (suc n) s B h =
      let next : (advance reads nr mem 1 s).count ≡ s.count + 1 = advance_count reads nr mem 1 s (omega arith) in
      stays_whole n (advance reads nr mem 1 s) (next_whole_state s B (omega arith)) (omega (arith, next))

-- The start is such a state.
pub starts_whole : (block : List ℕ) → Bytes block → WholeState (state_at 0 block zero_area)
starts_whole block b = record {
  of_bytes = record { standing = b; area = zero_bytes };
  area = length-replicate {A = ℕ} 256 0;
}
