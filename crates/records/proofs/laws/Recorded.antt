-- Laws, not definitions: what is recorded of the lookups of a stage or half is what the record of the walk has for them, for any number nr of rounds; and several
-- parts of a list at once come back filled (`parts_several`), and are read (`part_of_part`).
-- Assumes nothing.
use mathlib.Core.List.{List, ◌++◌}
use mathlib.Core.Path.{◌≡◌, sym, ap, ap₂, ◌∙◌}
use Prim.Native.Nat.{ℕ, ◌+◌, ◌-◌, ◌*◌, ◌≤◌, ◌<◌}
use native.Mathlib.Nat.{add-zero, add-mul}
use native.Mathlib.Omega.{arith}
use borrow.Rule.Slice.PartMut.{put_mid, same_len_mid, drop_put}
use lib.ListN.{length, take, drop, length-take, length-drop}
use lib.Seq.{drop-drop}
use Rattle.bits.specs.Lists.{concat, part_of}
use Rattle.bits.proofs.laws.Cuts.{take_inside}
use Rattle.bits.proofs.laws.Lists.{concat_same, cut, take_put, concat_split}
use Rattle.bits.proofs.laws.Multiples.{row_inside}
use Rattle.bits.proofs.laws.Parts.{Parts}
use Rattle.network.specs.Lookups.{State, state_at, Shape, zero_area, xor_index}
use Rattle.network.specs.Order.{xors, layer_lookups}
use Rattle.network.specs.Read.{nibble_place, read_in}
use Rattle.network.specs.Sizes.{offset_of}
use Rattle.network.specs.declared.EntryPlace.{EntryPlace}
use Rattle.network.proofs.laws.Order.{layer_lookups_lem}
use Rattle.network.proofs.laws.Read.{read_xor}
use Rattle.layout.specs.Ciphers.{reads_of}
use Rattle.layout.specs.Stages.{width_of, shape_at, lookups, table_offset, stage_of, index_of}
use Rattle.calls.specs.Calls.{advance, state_from}
use Rattle.calls.proofs.laws.Calls.{advance_split}
use Rattle.lookups.specs.Layer.{spreads_in, xors_in}
use Rattle.layer_record.specs.Entries.{written, entry_read}
use Rattle.layer_record.specs.Layer.{spread_entry, xor_entry, layer_entries, LayerRecorded}
use Rattle.records.specs.Record.{entry_next, entry_at}
use Rattle.passes.proofs.laws.Stages.{index_is, read_is, spreads_walk, xors_walk, layer_walk}

-- ---- the entries of the record for the lookups of a stage or half, from its first lookup n on
module _ (c nr : ℕ) (set block : List ℕ) (n : ℕ) (h : n < lookups nr) (z : index_of nr n ≡ 0) (s a : List ℕ)
    (walk : state_from (reads_of c) nr set block n ≡ state_at n s a) where
  abbrev reads : ℕ → ℕ
  reads = reads_of c

  abbrev m : ℕ
  m = width_of (stage_of nr n)

  abbrev S : Shape
  S = shape_at reads (stage_of nr n)

  abbrev from : ℕ
  from = table_offset nr n

  -- The state that lookup k of them meets has the area b.
  module _ (k : ℕ) (below : k < layer_lookups m) (b : List ℕ) (is : advance reads nr set k (state_at n s a) ≡ state_at (n + k) s b) where
    met : state_from reads nr set block (n + k) ≡ state_at (n + k) s b
    met = advance_split reads nr set n k (state_at 0 block zero_area) ∙ ap (advance reads nr set k) walk ∙ is

    entry_met : entry_at c nr set block (n + k) ≡ written (entry_read k set (read_in S k (from + offset_of m k) s b))
    entry_met =
        ap (λ (w : State). written (entry_next reads nr set w)) met
        ∙ ap₂ (λ (j : ℕ) (r : EntryPlace). written (entry_read j set r)) (index_is reads nr set n h z k below) (read_is reads nr set n h z k below s b)

  spread_met : (p : ℕ) → p < 16 → entry_at c nr set block (n + p) ≡ spread_entry S set from s a p
  spread_met p b =
      entry_met p (omega (arith, layer_lookups_lem m)) (spreads_in S set from s p a) (spreads_walk reads nr set n h z s a p (omega arith))

  abbrev spread : List ℕ
  spread = spreads_in S set from s 16 a

  xor_met : (x : ℕ) → x < xors m → entry_at c nr set block (n + (16 + x)) ≡ xor_entry m set from 0 spread x
  xor_met x b =
      let e : 16 + x - 16 ≡ x = omega arith in
      let area : List ℕ = xors_in m set from 0 x spread in
      entry_met (16 + x) (omega (arith, layer_lookups_lem m)) area (xors_walk reads nr set n h z s a x b)
      ∙ ap (λ (r : EntryPlace). written (entry_read (16 + x) set r))
      (read_xor S (16 + x) (from + offset_of m (16 + x)) s area (omega arith)
      ∙ ap (λ (y : ℕ). nibble_place (from + offset_of m (16 + x)) (xor_index m y area)) e)
      ∙ ap (λ (y : ℕ). written (entry_read (16 + y) set (nibble_place (from + offset_of m (16 + y)) (xor_index m y area)))) (sym (add-zero x))

  layer_entries_lem : concat (layer_lookups m) (λ k. entry_at c nr set block (n + k)) ≡ layer_entries S set from s a
  layer_entries_lem =
      ap (λ (k : ℕ). concat k (λ k. entry_at c nr set block (n + k))) (layer_lookups_lem m)
      ∙ concat_split 16 (xors m) (λ k. entry_at c nr set block (n + k))
      ∙ ap₂ (λ (u v : List ℕ). u ++ v)
      (concat_same 16 (λ k. entry_at c nr set block (n + k)) (spread_entry S set from s a) spread_met)
      (concat_same (xors m) (λ x. entry_at c nr set block (n + (16 + x))) (xor_entry m set from 0 spread) xor_met)

  module _ {s' a' left : List ℕ} (r : LayerRecorded S set from s a s' a' left) where
    pub layer_left : left ≡ concat (layer_lookups (width_of (stage_of nr n))) (λ k. entry_at c nr set block (n + k))
    layer_left = r.bytes ∙ sym layer_entries_lem

    pub layer_walked : state_from (reads_of c) nr set block (n + layer_lookups (width_of (stage_of nr n))) ≡ state_at (n + layer_lookups (width_of (stage_of nr n))) s' a'
    layer_walked =
        advance_split reads nr set n (layer_lookups m) (state_at 0 block zero_area)
        ∙ ap (advance reads nr set (layer_lookups m)) walk
        ∙ layer_walk reads nr set n h z s a
        ∙ ap₂ (state_at (n + layer_lookups m)) (sym r.standing) (sym r.area)

-- ---- several parts of a list at once, of w places each: k of them, from part i on
-- They are lent as one and come back filled.
pub parts_several : {n w : ℕ} {t : ℕ → List ℕ} {d₀ d : List ℕ} {i : ℕ} → Parts n w t d₀ d i → (k : ℕ) {ys : List ℕ} → i + k ≤ n → (i + k) * w ≤ length d
    → length ys ≡ length (cut d (i * w) ((i + k) * w)) → ys ≡ concat k (λ j. t (i + j))
    → Parts n w t d₀ (put_mid (i * w) ((i + k) * w - i * w) d ys) (i + k)
parts_several {n} {w} {t} {d₀} {d} {i} g k {ys} h room e is =
    let split : (i + k) * w ≡ i * w + k * w = add-mul i k w in
    let long : length (cut d (i * w) ((i + k) * w)) ≡ (i + k) * w - i * w = simp (length-take, length-drop) (omega arith) in
    record {
      within = h;
      room = g.room;
      long = same_len_mid (i * w) ((i + k) * w - i * w) d ys e ∙ g.long;
      front =
          take_put (i * w) ((i + k) * w - i * w) ((i + k) * w) d ys (omega arith) (omega (arith, e, long))
          ∙ ap₂ (λ (u v : List ℕ). u ++ v) g.front is
          ∙ sym (concat_split i k t);
      back =
          drop_put (i * w) ((i + k) * w) d ys (omega arith) room (omega (arith, e, long))
          ∙ behind d
          ∙ ap (drop (k * w)) g.back
          ∙ sym (behind d₀);
    }
  where
    behind : (l : List ℕ) → drop ((i + k) * w) l ≡ drop (k * w) (drop (i * w) l)
    behind l = ap (λ (x : ℕ). drop x l) (add-mul i k w) ∙ sym (drop-drop (k * w) (i * w) l)

-- Part j of them is part i + j of the list.
pub part_of_part : (w : ℕ) (l : List ℕ) (i k j : ℕ) → (i + k) * w ≤ length l → j < k → part_of w (cut l (i * w) ((i + k) * w)) j ≡ part_of w l (i + j)
unfolding part_of
part_of_part w l i k j b h =
    let split : (i + k) * w ≡ i * w + k * w = add-mul i k w in
    take_inside w (j * w) ((i + k) * w - i * w) (drop (i * w) l) (omega (arith, row_inside j w k h)) (simp length-drop (omega arith))
    ∙ ap (take w) (drop-drop (j * w) (i * w) l ∙ ap (λ (x : ℕ). drop x l) (sym (add-mul i j w)))
