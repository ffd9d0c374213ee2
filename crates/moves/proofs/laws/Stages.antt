-- Laws, not definitions: what a move by whole stages passes on, for any number nr of rounds and any byte `reads` that the row shift reads. The place that the last
-- lookup of a stage or half reads is the walk's (`layer_read`), and it lies in that lookup's table (`layer_inside`).
-- Assumes nothing.
use mathlib.Core.List.{List}
use mathlib.Core.Path.{◌≡◌, ap, ◌∙◌}
use Prim.Native.Nat.{ℕ, zero, suc, ◌+◌, ◌-◌, ◌<◌}
use native.Mathlib.Omega.{arith}
use Rattle.network.specs.Lookups.{State, state_at}
use Rattle.network.specs.Order.{xors, layer_lookups}
use Rattle.network.specs.Read.{read_in}
use Rattle.network.specs.Sizes.{offset_of}
use Rattle.network.specs.Theorems.{WithinTable}
use Rattle.network.specs.declared.EntryPlace.{EntryPlace}
use Rattle.network.proofs.laws.Order.{layer_lookups_lem}
use Rattle.layout.specs.Stages.{width_of, shape_at, lookups, table_offset, stage_of, index_of}
use Rattle.calls.specs.Calls.{advance, read_next, last_offset}
use Rattle.calls.specs.PlaceRead.{InTable}
use Rattle.calls.proofs.laws.Calls.{advance_split}
use Rattle.calls.proofs.laws.PlaceRead.{in_table}
use Rattle.lookups.specs.Layer.{spreads_in, xors_in}
use Rattle.layer_lookups.specs.Whole.{place_of_last}
use Rattle.passes.proofs.laws.Stages.{below, stage_is, index_is, offset_is, read_is, xors_walk, some_xors}

module _ (reads : ℕ → ℕ) (nr : ℕ) (set : List ℕ) where
  -- What is passed on is the last part's, where that makes a lookup.
  pub last_split : (j k : ℕ) (w : State) → 0 < k → last_offset reads nr set (j + k) w ≡ last_offset reads nr set k (advance reads nr set j w)
  unfolding last_offset
  last_split j zero w h = absurd (omega arith)
  last_split j (suc k) w h =
      let e : j + suc k ≡ suc (j + k) = omega arith in
      ap (λ (x : ℕ). last_offset reads nr set x w) e ∙ ap (λ (w : State). (read_next reads nr w).offset) (advance_split reads nr set j k w)

  -- ---- from the first lookup n of a stage or half
  module _ (n : ℕ) (h : n < lookups nr) (z : index_of nr n ≡ 0) (u a : List ℕ) where
    abbrev m : ℕ
    m = width_of (stage_of nr n)

    abbrev from : ℕ
    from = table_offset nr n

    abbrev xored : ℕ → List ℕ
    xored k = xors_in m set from 0 k (spreads_in (shape_at reads (stage_of nr n)) set from u 16 a)

    some : 16 < layer_lookups m
    some = some_xors reads nr set n h z u a

    pub layer_read : last_offset reads nr set (layer_lookups (width_of (stage_of nr n))) (state_at n u a)
        ≡ (place_of_last (shape_at reads (stage_of nr n)) set (table_offset nr n) u a).offset
    unfolding last_offset place_of_last
    layer_read =
        let k : ℕ = xors m - 1 in
        let l : layer_lookups m ≡ suc (16 + k) = omega (arith, layer_lookups_lem m, some) in
        let e : 16 + k ≡ layer_lookups m - 1 = omega arith in
        ap (λ (x : ℕ). last_offset reads nr set x (state_at n u a)) l
        ∙ ap (λ (w : State). (read_next reads nr w).offset) (xors_walk reads nr set n h z u a k (omega (arith, layer_lookups_lem m, some)))
        ∙ ap (λ (r : EntryPlace). r.offset)
        (read_is reads nr set n h z (16 + k) (omega arith) u (xored k)
        ∙ ap (λ (j : ℕ). read_in (shape_at reads (stage_of nr n)) j (from + offset_of m j) u (xored k)) e)

    pub layer_inside : (r : EntryPlace)
        → WithinTable (width_of (stage_of nr n)) (layer_lookups (width_of (stage_of nr n)) - 1)
        (table_offset nr n + offset_of (width_of (stage_of nr n)) (layer_lookups (width_of (stage_of nr n)) - 1)) r
        → InTable nr (n + (layer_lookups (width_of (stage_of nr n)) - 1)) r.offset
    layer_inside r T =
        let k : ℕ = layer_lookups m - 1 in
        let b : k < layer_lookups m = omega (arith, some) in
        in_table nr (n + k) (below reads nr set n h z k b) r
        (rw (offset_is reads nr set n h z k b, index_is reads nr set n h z k b, stage_is reads nr set n h z k b) T)
