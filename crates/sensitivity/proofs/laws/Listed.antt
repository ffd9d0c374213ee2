-- Laws, not definitions: a bit of the list, turned over, changes what the lookup that reads it leaves, over any memory of the right length. It is a bit of the word that
-- a spread lookup puts into the area, or of the nibble that an XOR lookup puts there; the last XOR of a stage or half copies that nibble to the standing bytes, as
-- the low half of the last.
-- Assumes nothing.
use mathlib.Core.List.{List}
use mathlib.Core.Logic.{inr}
use mathlib.Core.Path.{◌≡◌, refl, sym, ap, ◌∙◌, subst}
use Prim.Native.Nat.{ℕ, suc, ◌+◌, ◌-◌, ◌*◌, ◌/◌, ◌≤◌, ◌<◌}
use native.Mathlib.Decide.{ℕ_discrete, dec_lt}
use native.Mathlib.Omega.{arith}
use borrow.Author.Tests.{lt-ltb, le-ltb}
use lib.ListN.{length, drop}
use lib.Seq.{get_or-drop}
use Rattle.bits.specs.Bytes.{Bytes}
use Rattle.bits.specs.Flips.{flipped}
use Rattle.bits.specs.Lists.{at}
use Rattle.bits.specs.Nibbles.{nibble}
use Rattle.bits.proofs.laws.Flips.{length_flipped, flipped_bytes, byte_differs, nibble_differs}
use Rattle.bits.proofs.laws.Nibbles.{nibble_half}
use Rattle.bits.proofs.laws.Offsets.{offset_mono}
use Rattle.bits.proofs.laws.Pasted.{paste_mid}
use Rattle.network.specs.Lookups.{State, Shape, state_at, zero_area}
use Rattle.network.specs.Order.{layer_lookups, sum_place}
use Rattle.network.specs.Read.{lookup_from}
use Rattle.network.specs.Theorems.{WithinTable}
use Rattle.network.specs.declared.EntryPlace.{EntryPlace}
use Rattle.layout.specs.Stages.{shape_at, lookups, table_size, table_offset, stage_of, index_of}
use Rattle.layout.proofs.laws.Instance.{next_offset}
use Rattle.calls.specs.Calls.{table_part, step, read_next, state_from}
use Rattle.calls.proofs.laws.Calls.{advance_last}
use Rattle.calls.proofs.laws.PlaceRead.{place_was_read}
use Rattle.calls.proofs.laws.PutDown.{Whole, by_spread, by_xor, by_last, with_nibble, word_read, word_room, nibble_put, last_sum, WholeState, next_whole}
use Rattle.sensitivity.specs.Reads.{first_bit, entry_bits, bits_at, first_read, bits_read}
use Rattle.sensitivity.specs.Theorems.{ListedRead}
use Rattle.sensitivity.proofs.laws.Runs.{InRun, listed_run}
use Rattle.sensitivity.proofs.laws.Unread.{state_whole, state_count, least, most, same_until}

-- ---- one lookup, by the place r that it reads of a memory
module _ (S : Shape) (j from : ℕ) (mem : List ℕ) (r : EntryPlace) (w : State) (W : Whole S j mem r w) (T : WithinTable S.width j from r) (bytes : Bytes mem) where
  abbrev m : ℕ
  m = S.width

  -- Over another memory of the same length it reads within that.
  over : (l : List ℕ) → length l ≡ length mem → Whole S j l r w
  over l z = record { width = W.width; index = W.index; ends = omega (arith, W.ends); long = W.long }

  -- Bit e of a word is a bit of the area.
  word_differs : (e : ℕ) → j < 16 → e < 8 * S.width → lookup_from S j (flipped mem (first_bit r + e)) r w ≡ lookup_from S j mem r w → ⊥
  word_differs e h l same =
      byte_differs mem i (omega (arith, byte, l, ends)) (subst (λ (n : ℕ). at (flipped mem i) n ≡ at mem n) (sym byte) equal)
    where
      i : ℕ
      i = first_bit r + e

      byte : i / 8 ≡ r.offset + e / 8
      byte = omega (arith, T.spread h)

      ends : r.offset + S.width ≤ length mem
      ends = rw (lt-ltb j 16 h) at W.ends

      shown : (u : List ℕ) → length u ≡ length mem → at (lookup_from S j u r w).area (j * m + e / 8) ≡ at u (r.offset + e / 8)
      shown u z =
          ap (λ (s : State). at s.area (j * m + e / 8)) (by_spread S j u r w h)
          ∙ paste_mid w.area (j * m) (drop r.offset u) m (omega (arith, word_room S j mem r w W h)) (word_read S j u r w (over u z) h) (e / 8) (omega (arith, l))
          ∙ get_or-drop r.offset u (e / 8) 0

      equal : at (flipped mem i) (r.offset + e / 8) ≡ at mem (r.offset + e / 8)
      equal = sym (shown (flipped mem i) (length_flipped mem i)) ∙ ap (λ (s : State). at s.area (j * m + e / 8)) same ∙ shown mem refl

  -- Bit e of a nibble is one of the sum, which the last lookup copies.
  nibble_changes : (e : ℕ) → 16 ≤ j → e < 4 → lookup_from S j (flipped mem (first_bit r + e)) r w ≡ lookup_from S j mem r w → ⊥
  nibble_changes e h l same =
      nibble_differs mem i (omega (arith, T.half, l, ends)) (subst (λ (n : ℕ). nibble (flipped mem i) n ≡ nibble mem n) place equal)
    where
      i : ℕ
      i = first_bit r + e

      ends : r.offset + 1 ≤ length mem
      ends = rw (le-ltb j 16 h) at W.ends

      place : 2 * r.offset + r.half ≡ i / 4
      place = omega (arith, T.half, l)

      -- Where the nibble stands afterwards.
      shown : Dec (suc j ≡ layer_lookups S.width) → State → ℕ
      shown (yes z) s = nibble s.standing 31
      shown (no z) s = nibble s.area (sum_place S.width (j - 16))

      put : (d : Dec (suc j ≡ layer_lookups S.width)) (u : List ℕ) → Bytes u → length u ≡ length mem
          → shown d (lookup_from S j u r w) ≡ nibble u (2 * r.offset + r.half)
      put d u b z = by d ∙ nibble_put S j u r w (over u z) b h ∙ sym (nibble_half u r.offset r.half (omega (arith, T.half)))
        where
          by : (d : Dec (suc j ≡ layer_lookups S.width)) → shown d (lookup_from S j u r w) ≡ nibble (with_nibble S j u r w) (sum_place S.width (j - 16))
          by (yes y) = ap (λ (s : State). nibble s.standing 31) (by_last S j u r w h y) ∙ last_sum S.width j (with_nibble S j u r w) W.width y
          by (no y) = ap (λ (s : State). nibble s.area (sum_place S.width (j - 16))) (by_xor S j u r w h y)

      equal : nibble (flipped mem i) (2 * r.offset + r.half) ≡ nibble mem (2 * r.offset + r.half)
      equal =
          let d = ℕ_discrete (suc j) (layer_lookups S.width) in
          sym (put d (flipped mem i) (flipped_bytes mem bytes i) (length_flipped mem i)) ∙ ap (shown d) same ∙ put d mem bytes refl

  entry_differs : (e : ℕ) → e < entry_bits m j → lookup_from S j (flipped mem (first_bit r + e)) r w ≡ lookup_from S j mem r w → ⊥
  entry_differs e l = go (dec_lt j 16)
    where
      go : Dec (j < 16) → lookup_from S j (flipped mem (first_bit r + e)) r w ≡ lookup_from S j mem r w → ⊥
      go (yes h) = word_differs e h (rw (lt-ltb j 16 h) at l)
      go (no h) = nibble_changes e (omega arith) (rw (le-ltb j 16 (omega arith)) at l)

-- ---- the walk over a memory, from a block
pub listed_read : ListedRead
unfolding bits_read
listed_read reads nr set x lent i listed =
    record { lookup = k; below = h; before = before; after = after }
  where
    run : InRun (first_read reads nr set x) (bits_at nr) (lookups nr) i
    run = listed_run (first_read reads nr set x) (bits_at nr) (lookups nr) i listed

    k : ℕ
    k = run.run

    h : k < lookups nr
    h = run.below

    s : State
    s = state_from reads nr set x k

    mono : (n : ℕ) → n < k → table_offset nr n + table_size nr n ≤ table_offset nr k
    mono n c = offset_mono (table_size nr) (table_offset nr) (lookups nr) (next_offset nr) k n c (omega (arith, h))

    before : state_from reads nr (flipped set i) x k ≡ s
    before =
        same_until reads nr set x lent i k (omega (arith, h))
        (λ n c.
        let b : n < lookups nr = omega (arith, h) in
        inr (omega (arith, run.is, mono n c, most reads nr set x lent n b, next_offset nr n b, least reads nr set x lent k h)))

    after : state_from reads nr (flipped set i) x (suc k) ≡ state_from reads nr set x (suc k) → ⊥
    after same =
        let n = state_count reads nr set x lent k (omega (arith, h)) in
        let count : s.count < lookups nr = omega (arith, n, h) in
        let whole : WholeState s = state_whole reads nr set x lent k (omega (arith, h)) in
        let r = read_next reads nr s in
        let A = place_was_read.lookups reads nr (flipped set i) s whole.of_bytes count in
        let B = place_was_read.lookups reads nr set s whole.of_bytes count in
        let s₀ : State = state_at 0 x zero_area in
        entry_differs (shape_at reads (stage_of nr s.count)) (index_of nr s.count) (table_offset nr s.count) set r s
        (next_whole reads nr set lent.long lent.bytes s whole count) B.table lent.bytes run.index
        (subst (λ (c : ℕ). run.index < bits_at nr c) (sym n) run.within)
        (ap (λ (b : ℕ). lookup_from (shape_at reads (stage_of nr s.count)) (index_of nr s.count) (flipped set b) r s) (sym run.is)
        ∙ sym A.value
        ∙ sym (advance_last reads nr (flipped set i) k s₀ ∙ ap (λ (w : State). step reads nr (table_part nr (flipped set i) w.count) w) before)
        ∙ same
        ∙ advance_last reads nr set k s₀
        ∙ B.value)
