-- Laws, not definitions: over any memory of the right length. What a lookup reads lies in its table, so the bits of one lookup lie behind those of the lookups
-- before it; a lookup reads one entry of its table's 256, which counts them; and a bit outside that entry makes no difference to it (crate calls: what a lookup
-- leaves is worked out from the entry at the place that it reads).
-- Assumes nothing.
use mathlib.Core.Bool.{Bool, true, false, cond}
use mathlib.Core.List.{List, ◌++◌}
use mathlib.Core.Logic.{◌⊎◌, inl, inr, ⊎_elim}
use mathlib.Core.Path.{◌≡◌, refl, sym, ap, ◌∙◌, subst}
use Prim.Native.Nat.{ℕ, zero, suc, ◌+◌, ◌-◌, ◌*◌, ◌/◌, ◌≤◌, ◌<◌}
use native.Mathlib.Decide.{dec_lt}
use native.Mathlib.Nat.{le_refl}
use native.Mathlib.Omega.{arith}
use borrow.Author.Tests.{lt-ltb, le-ltb}
use lib.Dec.{ltb}
use lib.ListN.{length, take, drop, length-append}
use Rattle.bits.specs.Flips.{flipped}
use Rattle.bits.specs.Lists.{at, concat, Listed}
use Rattle.bits.specs.Nibbles.{half, nibble, set_nibble}
use Rattle.bits.proofs.laws.Flips.{nibble_flipped_other, part_before, part_behind}
use Rattle.bits.proofs.laws.Lists.{length_tabulate}
use Rattle.bits.proofs.laws.Nibbles.{nibble_half}
use Rattle.network.specs.Lookups.{State, Shape, state_at, zero_area, leaving}
use Rattle.network.specs.Order.{sum_place}
use Rattle.network.specs.Read.{area_from, lookup_from}
use Rattle.network.specs.Sizes.{size_of}
use Rattle.network.specs.Theorems.{WithinTable}
use Rattle.network.specs.declared.EntryPlace.{EntryPlace}
use Rattle.layout.specs.Stages.{width_of, shape_at, lookups, tables_bytes, table_offset, stage_of, index_of}
use Rattle.layout.proofs.laws.Instance.{first_offset, next_offset}
use Rattle.layout.proofs.laws.Ranges.{by_stage}
use Rattle.calls.specs.Calls.{table_part, step, advance, read_next, state_from}
use Rattle.calls.proofs.laws.Calls.{advance_count, advance_last}
use Rattle.calls.proofs.laws.PlaceRead.{place_was_read}
use Rattle.calls.proofs.laws.PutDown.{WholeState, stays_whole, starts_whole}
use Rattle.sensitivity.specs.Reads.{first_bit, entry_bits, bits_at, first_read, run_at, bits_read}
use Rattle.sensitivity.specs.Theorems.{Lendable, ReadInOrder, OthersAlone}
use Rattle.sensitivity.proofs.laws.Runs.{run_listed, run_below, runs_rise}

-- ---- one lookup
-- One entry of 256.
pub entry_size : (m j : ℕ) → 32 * entry_bits m j ≡ size_of m j
entry_size m j = go (ltb j 16)
  where
    go : (b : Bool) → 32 * cond b (8 * m) 4 ≡ cond b (256 * m) 128
    go true = omega arith
    go false = omega arith

-- Its bits lie in the table.
bits_within : (m j from : ℕ) (r : EntryPlace) → WithinTable m j from r → (8 * from ≤ first_bit r) × (first_bit r + entry_bits m j ≤ 8 * (from + size_of m j))
bits_within m j from r T = (omega (arith, T.least), go (dec_lt j 16))
  where
    go : Dec (j < 16) → first_bit r + entry_bits m j ≤ 8 * (from + size_of m j)
    go (yes h) =
        let most : r.offset + m ≤ from + 256 * m = rw (lt-ltb j 16 h) at T.most in
        rw (lt-ltb j 16 h) (omega (arith, T.spread h))
    go (no h) =
        let most : r.offset + 1 ≤ from + 128 = rw (le-ltb j 16 (omega arith)) at T.most in
        rw (le-ltb j 16 (omega arith)) (omega (arith, T.half))

-- A bit outside them makes no difference.
module _ (S : Shape) (j from : ℕ) (mem : List ℕ) (w : State) (r : EntryPlace) (T : WithinTable S.width j from r) (i : ℕ)
    (out : (i < first_bit r) ⊎ (first_bit r + entry_bits S.width j ≤ i)) where
  abbrev m : ℕ
  m = S.width

  same_word : j < 16 → take m (drop r.offset (flipped mem i)) ≡ take m (drop r.offset mem)
  same_word h =
      ⊎_elim (λ a. part_before mem r.offset m i (omega (arith, T.spread h)))
      (λ a. let b : first_bit r + 8 * m ≤ i = rw (lt-ltb j 16 h) at a in part_behind mem r.offset m i (omega arith)) out

  same_nibble : 16 ≤ j → half r.half (at (flipped mem i) r.offset) ≡ half r.half (at mem r.offset)
  same_nibble h = sym (in_half (flipped mem i)) ∙ nibble_flipped_other mem i (2 * r.offset + r.half) other ∙ in_half mem
    where
      in_half : (l : List ℕ) → nibble l (2 * r.offset + r.half) ≡ half r.half (at l r.offset)
      in_half l = nibble_half l r.offset r.half (omega (arith, T.half))

      other : 2 * r.offset + r.half ≡ i / 4 → ⊥
      other z = ⊎_elim (λ a. omega arith) (λ a. let b : first_bit r + 4 ≤ i = rw (le-ltb j 16 h) at a in omega arith) out

  same_area : area_from S j (flipped mem i) r w ≡ area_from S j mem r w
  same_area = go (dec_lt j 16)
    where
      go : Dec (j < 16) → area_from S j (flipped mem i) r w ≡ area_from S j mem r w
      go (yes h) = rw (lt-ltb j 16 h) (ap (λ (y : List ℕ). (take (j * m) w.area ++ y) ++ drop (j * m + m) w.area) (same_word h))
      go (no h) = rw (le-ltb j 16 (omega arith)) (ap (set_nibble w.area (sum_place m (j - 16))) (same_nibble (omega arith)))

  same_lookup : lookup_from S j (flipped mem i) r w ≡ lookup_from S j mem r w
  unfolding lookup_from
  same_lookup = ap (λ (a : List ℕ). leaving S j a w) same_area

-- ---- the walk over a memory, from a block
module _ (reads : ℕ → ℕ) (nr : ℕ) (set x : List ℕ) (lent : Lendable nr set x) where
  abbrev state : ℕ → State
  state k = state_from reads nr set x k

  pub state_whole : (k : ℕ) → k ≤ lookups nr → WholeState (state k)
  state_whole k h = stays_whole reads nr set lent.long lent.bytes k (state_at 0 x zero_area) (starts_whole x lent.block.bytes) (omega arith)

  pub state_count : (k : ℕ) → k ≤ lookups nr → (state k).count ≡ k
  state_count k h = advance_count reads nr set k (state_at 0 x zero_area) (omega arith) ∙ omega arith

  -- What lookup k reads lies in its table.
  reads_within : (k : ℕ) → k < lookups nr → WithinTable (width_of (stage_of nr k)) (index_of nr k) (table_offset nr k) (read_next reads nr (state k))
  reads_within k h =
      let n = state_count k (omega arith) in
      subst (λ (n : ℕ). WithinTable (width_of (stage_of nr n)) (index_of nr n) (table_offset nr n) (read_next reads nr (state k))) n
      (place_was_read.lookups reads nr set (state k) (state_whole k (omega arith)).of_bytes (omega (arith, n))).table

  pub least : (k : ℕ) → k < lookups nr → 8 * table_offset nr k ≤ first_read reads nr set x k
  least k h = (bits_within (width_of (stage_of nr k)) (index_of nr k) (table_offset nr k) (read_next reads nr (state k)) (reads_within k h)).0

  pub most : (k : ℕ) → k < lookups nr → first_read reads nr set x k + bits_at nr k ≤ 8 * table_offset nr (suc k)
  most k h =
      omega (
        arith,
        (bits_within (width_of (stage_of nr k)) (index_of nr k) (table_offset nr k) (read_next reads nr (state k)) (reads_within k h)).1,
        (by_stage nr).size_is k h,
        next_offset nr k h,
      )

  -- Up to lookup n a bit is read for every 32 bytes of the tables.
  many_upto : (n : ℕ) → n ≤ lookups nr → 32 * length (concat n (run_at reads nr set x)) ≡ table_offset nr n
  unfolding concat
  many_upto zero h = sym (first_offset nr)
  many_upto (suc n) h =
      omega (
        arith,
        many_upto n (omega arith),
        length-append (concat n (run_at reads nr set x)) (run_at reads nr set x n),
        length_tabulate (bits_at nr n) (λ e. first_read reads nr set x n + e),
        entry_size (width_of (stage_of nr n)) (index_of nr n),
        (by_stage nr).size_is n h,
        next_offset nr n h,
      )

  -- ---- a bit that some lookups do not read
  -- It lies before or behind the bits of lookup k.
  abbrev Outside : ℕ → ℕ → Type 0
  Outside i k = (i < first_read reads nr set x k) ⊎ (first_read reads nr set x k + bits_at nr k ≤ i)

  -- A bit that is not in the list does so for every lookup.
  unlisted_outside : (i : ℕ) → (Listed (bits_read reads nr set x) i → ⊥) → (k : ℕ) → k < lookups nr → Outside i k
  unlisted_outside i unlisted k h = go (dec_lt i first) (dec_lt i (first + bits_at nr k))
    where
      first : ℕ
      first = first_read reads nr set x k

      go : Dec (i < first) → Dec (i < first + bits_at nr k) → (i < first) ⊎ (first + bits_at nr k ≤ i)
      go (yes a) d = inl a
      go (no a) (no b) = inr (omega arith)
      go (no a) (yes b) =
          absurd (unlisted (subst (Listed (bits_read reads nr set x)) (let e : first + (i - first) ≡ i = omega arith in e)
          (unfold bits_read in run_listed (first_read reads nr set x) (bits_at nr) (lookups nr) k (i - first) h (omega arith))))

  -- Such a lookup leaves what it left.
  same_step : (i k : ℕ) → k < lookups nr → Outside i k
      → step reads nr (table_part nr (flipped set i) (state k).count) (state k) ≡ step reads nr (table_part nr set (state k).count) (state k)
  same_step i k h out =
      let n = state_count k (omega arith) in
      let r = read_next reads nr (state k) in
      let A = place_was_read.lookups reads nr (flipped set i) (state k) (state_whole k (omega arith)).of_bytes (omega (arith, n)) in
      let B = place_was_read.lookups reads nr set (state k) (state_whole k (omega arith)).of_bytes (omega (arith, n)) in
      let there = subst (λ (m : ℕ). (i < first_bit r) ⊎ (first_bit r + bits_at nr m ≤ i)) (sym n) out in
      A.value
      ∙ same_lookup (shape_at reads (stage_of nr (state k).count)) (index_of nr (state k).count) (table_offset nr (state k).count) set (state k) r B.table i there
      ∙ sym B.value

  -- So do the first k lookups, where none of them reads the bit.
  pub same_until : (i k : ℕ) → k ≤ lookups nr → ((n : ℕ) → n < k → Outside i n) → state_from reads nr (flipped set i) x k ≡ state k
  same_until i zero h out = unfold advance in refl
  same_until i (suc k) h out =
      let s₀ : State = state_at 0 x zero_area in
      advance_last reads nr (flipped set i) k s₀
      ∙ ap (λ (s : State). step reads nr (table_part nr (flipped set i) s.count) s) (same_until i k (omega arith) (λ n c. out n (omega arith)))
      ∙ same_step i k (omega arith) (out k (omega arith))
      ∙ sym (advance_last reads nr set k s₀)

pub others_alone : OthersAlone
others_alone reads nr set x lent i unlisted k h = same_until reads nr set x lent i k h (λ n c. unlisted_outside reads nr set x lent i unlisted n (omega arith))

pub read_in_order : ReadInOrder
unfolding bits_read
read_in_order reads nr set x lent =
    let first : ℕ → ℕ = first_read reads nr set x in
    let all : ℕ = lookups nr in
    let limit : ℕ → ℕ = λ k. 8 * table_offset nr k in
    let end : table_offset nr all ≡ tables_bytes nr = (by_stage nr).offset_none all (le_refl all) in
    record {
      many = omega (arith, many_upto reads nr set x lent all (le_refl all), end, (by_stage nr).table_bytes);
      rising = runs_rise first (bits_at nr) limit all (least reads nr set x lent) (most reads nr set x lent) all (le_refl all);
      within = λ i p.
          let below : i < 8 * table_offset nr all = run_below first (bits_at nr) limit all (least reads nr set x lent) (most reads nr set x lent) all i (le_refl all) p in
          omega (arith, end);
    }
