-- Laws, not definitions: the lookups of a move, part by part, for any number nr of rounds and any byte `reads` that the row shift reads.
-- Assumes nothing.
use mathlib.Core.List.{List}
use mathlib.Core.Path.{◌≡◌, sym, ap, ap₂, ◌∙◌, subst}
use Prim.Native.Nat.{ℕ, ◌+◌, ◌-◌, ◌≤◌, ◌<◌}
use native.Mathlib.Numerals.{add-one}
use native.Mathlib.Omega.{arith}
use Rattle.network.specs.Lookups.{State, state_at, zero_area}
use Rattle.network.specs.Order.{layer_lookups}
use Rattle.network.specs.Sizes.{offset_of}
use Rattle.network.specs.Theorems.{WithinTable}
use Rattle.network.specs.declared.EntryPlace.{EntryPlace}
use Rattle.network.proofs.laws.Order.{layer_lookups_lem}
use Rattle.layout.specs.Stages.{width_of, shape_at, lookups, nowhere, table_offset, stage_of, index_of, place_of}
use Rattle.layout.specs.declared.stage.Place.{Place}
use Rattle.calls.specs.Calls.{advance, last_offset}
use Rattle.calls.specs.PlaceRead.{InTable}
use Rattle.calls.proofs.laws.Calls.{advance_split}
use Rattle.lookups.specs.Layer.{sums_in}
use Rattle.layer_lookups.specs.Whole.{LayerMade, place_of_last}
use Rattle.passes.specs.InPlace.{LookupMade}
use Rattle.passes.specs.declared.Lookup.{Lookup}
use Rattle.moves.specs.Advanced.{Advanced, PartMade}
use Rattle.passes.proofs.laws.Stages.{layer_walk}
use Rattle.moves.proofs.laws.Stages.{last_split, layer_read, layer_inside}

-- ---- a step: one lookup, or all of a stage or half, made in place, is the walk's
pub one_made : {reads : ℕ → ℕ} {nr : ℕ} {set : List ℕ} {n stop : ℕ} {s a s' a' : List ℕ} {r : Lookup} → n < stop → LookupMade reads nr set n s a r s' a'
    → PartMade reads nr set n stop (n + 1) r.offset s a s' a'
unfolding last_offset advance
one_made {reads} {nr} {set} {n} {s = s} {a} {s'} {a'} {r} b made =
    let w : State = state_at n s a in
    let one : n + 1 - n ≡ 1 = omega arith in
    record {
      more = omega arith;
      most = omega arith;
      made = record {
        walk = ap (λ (x : ℕ). advance reads nr set x w) one ∙ made.walk ∙ ap (λ (k : ℕ). state_at k s' a') (sym (add-one n));
        offset = ap (λ (r : EntryPlace). r.offset) made.place ∙ ap (λ (x : ℕ). last_offset reads nr set x w) (sym one);
        inside = λ more. subst (λ (k : ℕ). InTable nr k r.offset) (let z : n ≡ n + 1 - 1 = omega arith in z) made.inside;
      };
    }

module _ {reads : ℕ → ℕ} {nr : ℕ} {set : List ℕ} {n stop : ℕ} {p : Place} {s a s' a' : List ℕ}
    (e : p ≡ place_of nr n) (b : n < stop) (d : stop ≤ lookups nr) where
  pub all_made : {all m : ℕ} {r : EntryPlace} → m ≡ width_of p.stage → all ≡ layer_lookups m → p.index ≡ 0 → all ≤ stop - n
      → LayerMade (shape_at reads p.stage) set p.offset s a r s' a' → PartMade reads nr set n stop (n + all) r.offset s a s' a'
  all_made {all} {m} {r} v c z b' f =
      let within : n < lookups nr = omega arith in
      let x : n + all - n ≡ all = omega arith in
      let q : all ≡ layer_lookups (width_of (stage_of nr n)) = c ∙ ap layer_lookups v ∙ ap (λ (p : Place). layer_lookups (width_of p.stage)) e in
      let i : index_of nr n ≡ 0 = ap (λ (p : Place). p.index) (sym e) ∙ z in
      let sums : sums_in (shape_at reads (stage_of nr n)) set (table_offset nr n) s a ≡ s' =
      ap (λ (p : Place). sums_in (shape_at reads p.stage) set p.offset s a) (sym e) ∙ sym f.standing in
      let last : n + (layer_lookups (width_of (stage_of nr n)) - 1) ≡ n + all - 1 = omega (arith, q, layer_lookups_lem m, c) in
      record {
        more = omega (arith, layer_lookups_lem m);
        most = omega arith;
        made = record {
          walk =
              ap (λ (x : ℕ). advance reads nr set x (state_at n s a)) (x ∙ q)
              ∙ layer_walk reads nr set n within i s a
              ∙ ap (λ (k : ℕ). state_at (n + k) (sums_in (shape_at reads (stage_of nr n)) set (table_offset nr n) s a) zero_area) (sym q)
              ∙ ap₂ (state_at (n + all)) sums (sym f.area);
          offset =
              ap (λ (r : EntryPlace). r.offset) (f.read ∙ ap (λ (p : Place). place_of_last (shape_at reads p.stage) set p.offset s a) e)
              ∙ sym (layer_read reads nr set n within i s a)
              ∙ ap (λ (x : ℕ). last_offset reads nr set x (state_at n s a)) (sym (x ∙ q));
          inside = λ more. subst (λ (k : ℕ). InTable nr k r.offset) last
              (layer_inside reads nr set n within i s a r
              (subst (λ (p : Place). WithinTable (width_of p.stage) (layer_lookups (width_of p.stage) - 1)
              (p.offset + offset_of (width_of p.stage) (layer_lookups (width_of p.stage) - 1)) r) e f.table));
        };
      }

-- ---- the loop over a set, from count n₀, standing bytes s₀ and area a₀: the lookups up to count n have left s and a, and o is the offset of the last
pub record Going (reads : ℕ → ℕ) (nr : ℕ) (set : List ℕ) (stop n₀ : ℕ) (s₀ a₀ s a : List ℕ) (n o : ℕ) : Type 0 where
  pub within : n ≤ stop
  pub behind : n₀ ≤ n
  pub made : Advanced reads nr set n₀ n o s₀ a₀ s a

pub going_none : {reads : ℕ → ℕ} {nr : ℕ} {set : List ℕ} {stop n o : ℕ} {s a : List ℕ} → n ≤ stop → o ≡ nowhere nr
    → Going reads nr set stop n s a s a n o
unfolding advance last_offset
going_none {reads} {nr} {set} {n = n} {s = s} {a} h e =
    let z : n - n ≡ 0 = omega arith in
    record {
      within = h;
      behind = omega arith;
      made = record {
        walk = ap (λ (x : ℕ). advance reads nr set x (state_at n s a)) z;
        offset = e ∙ ap (λ (x : ℕ). last_offset reads nr set x (state_at n s a)) (sym z);
        inside = λ more. absurd (omega arith);
      };
    }

module _ {reads : ℕ → ℕ} {nr : ℕ} {set : List ℕ} {stop n₀ : ℕ} {s₀ a₀ s a : List ℕ} {n o : ℕ} (I : Going reads nr set stop n₀ s₀ a₀ s a n o) where
  pub going_more : {r o' : ℕ} {s' a' : List ℕ} → PartMade reads nr set n stop r o' s a s' a' → Going reads nr set stop n₀ s₀ a₀ s' a' r o'
  going_more {r} d =
      let w₀ : State = state_at n₀ s₀ a₀ in
      let i = n - n₀ in
      let e : r - n₀ ≡ i + (r - n) = omega (arith, I.behind, d.more) in
      record {
        within = d.most;
        behind = omega (arith, I.behind, d.more);
        made = record {
          walk =
              ap (λ (x : ℕ). advance reads nr set x w₀) e
              ∙ advance_split reads nr set i (r - n) w₀
              ∙ ap (advance reads nr set (r - n)) I.made.walk
              ∙ d.made.walk;
          offset =
              d.made.offset
              ∙ ap (last_offset reads nr set (r - n)) (sym I.made.walk)
              ∙ sym (last_split reads nr set i (r - n) w₀ (omega (arith, d.more)))
              ∙ ap (λ (x : ℕ). last_offset reads nr set x w₀) (sym e);
          inside = λ more. d.made.inside d.more;
        };
      }
