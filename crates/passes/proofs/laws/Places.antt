-- Laws, not definitions: one lookup of a set, at the place that `place_of` gives, is the walk's, for any number nr of rounds and any byte `reads` that the row
-- shift reads; and what lookups at that place ask.
-- Assumes nothing.
use mathlib.Core.List.{List}
use mathlib.Core.Path.{◌≡◌, refl, sym, ap, ◌∙◌, subst}
use Prim.Native.Nat.{ℕ, suc, ◌+◌, ◌≤◌, ◌<◌}
use native.Mathlib.Omega.{arith}
use lib.ListN.{take, drop}
use Rattle.rounds.specs.Rounds.{Rounds}
use Rattle.bits.proofs.laws.Lists.{cut, cut_is}
use Rattle.network.specs.Lookups.{State, state_at, lookup, lookup_in}
use Rattle.network.specs.Read.{read_in}
use Rattle.network.specs.Theorems.{WithinTable}
use Rattle.network.specs.declared.EntryPlace.{EntryPlace}
use Rattle.layout.specs.Stages.{width_of, shape_at, shapes, lookups, set_bytes, table_offset, place_of}
use Rattle.layout.specs.declared.stage.Place.{Place}
use Rattle.layout.proofs.laws.Lookup.{Stands, stands, tables_in_set}
use Rattle.layout.proofs.laws.Ranges.{by_stage}
use Rattle.layout.proofs.laws.Rounds.{most_bytes}
use Rattle.calls.specs.Calls.{advance, read_next}
use Rattle.calls.specs.PlaceRead.{InTable}
use Rattle.calls.proofs.laws.PlaceRead.{in_table}
use Rattle.lookups.specs.InPlace.{Width, Fits, LookedUp}
use Rattle.lookups.specs.Layer.{LayerStands}
use Rattle.passes.specs.InPlace.{StandsIn, MadeAt, LookupMade}
use Rattle.passes.specs.declared.Lookup.{Lookup}

-- ---- the place of a lookup
module _ (nr n : ℕ) {p : Place} (h : n < lookups nr) (e : p ≡ place_of nr n) where
  place : Stands nr n p
  place = stands h e

  pub place_width : {m : ℕ} → m ≡ width_of p.stage → Width m
  place_width f = rw f place.width

  -- The table of a lookup ends in the set.
  pub part_within : p.offset + p.size ≤ set_bytes nr
  part_within = omega (arith, place.end, tables_in_set nr)

  -- It fits, lent alone, or as a part of the set.
  pub table_fits : {long : ℕ} → Rounds nr → long ≡ p.size → Fits p.stage p.index p.offset long
  table_fits R l = record { within = place.index; sized = l ∙ place.kind; short = omega (arith, part_within, most_bytes nr R) }

  pub stands_in : {long : ℕ} → Rounds nr → set_bytes nr ≤ long → StandsIn p long
  stands_in R l = record { fits = table_fits R refl; ends = omega (arith, part_within) }

  -- The tables of a stage or half, from its first lookup on, lie in a set.
  pub place_holds : {long : ℕ} → Rounds nr → long ≡ set_bytes nr → p.index ≡ 0 → LayerStands p.stage p.offset long
  place_holds R l z = record { width = place.width; room = omega (arith, place.layer z, tables_in_set nr); short = omega (arith, most_bytes nr R) }

-- ---- the lookup made in place is the walk's
module _ (reads : ℕ → ℕ) (nr n : ℕ) {p : Place} (h : n < lookups nr) (e : p ≡ place_of nr n) {t s a s' a' : List ℕ} {r : EntryPlace}
    (l : LookedUp (shape_at reads p.stage) p.index t p.offset s a r s' a') where
  pub looked_up : lookup (shapes reads nr) t (state_at n s a) ≡ state_at (suc n) s' a'
  unfolding lookup
  looked_up =
      let w : State = state_at n s a in
      (by_stage nr).lookup_is reads n h t w
      ∙ ap (λ (p : Place). lookup_in (shape_at reads p.stage) p.index t w) (sym e)
      ∙ l.walk n

  -- And so is the place that it read.
  pub read_there : r ≡ read_next reads nr (state_at n s a)
  read_there =
      l.read
      ∙ ap (λ (p : Place). read_in (shape_at reads p.stage) p.index p.offset s a) e
      ∙ sym ((by_stage nr).read_is reads n h (table_offset nr n) s a)

  pub inside_there : InTable nr n r.offset
  inside_there =
      in_table nr n h r (subst (λ (p : Place). WithinTable (width_of p.stage) p.index p.offset r) e l.table)

-- ---- over its table in a set
-- The part of the set that the code lends is the table.
pub made_at : {reads : ℕ → ℕ} {set : List ℕ} {p : Place} {s a s' a' : List ℕ} {r : EntryPlace} {m : ℕ}
    → LookedUp (shape_at reads p.stage) p.index (cut set p.offset (p.offset + p.size)) p.offset s a r s' a' → m ≡ width_of p.stage
    → MadeAt reads set p s a (record { offset = r.offset; index = p.index; half = r.half; width = m }) s' a'
made_at {reads} {set} {p} {s} {a} {s'} {a'} {r} l w =
    record {
      made = subst (λ (t : List ℕ). LookedUp (shape_at reads p.stage) p.index t p.offset s a r s' a') (cut_is set p.offset p.size) l;
      index = refl;
      width = w;
    }

-- At the place of lookup n it is that lookup.
pub lookup_made : {reads : ℕ → ℕ} {nr : ℕ} {set : List ℕ} {n : ℕ} {p : Place} {s a s' a' : List ℕ} {r : Lookup} → n < lookups nr → p ≡ place_of nr n
    → MadeAt reads set p s a r s' a' → LookupMade reads nr set n s a r s' a'
unfolding advance
lookup_made {reads} {nr} {set} {n} {s = s} {a} h e at =
    record {
      place = read_there reads nr n h e at.made;
      inside = inside_there reads nr n h e at.made;
      half = at.made.table.half;
      index = at.index ∙ ap (λ (p : Place). p.index) e;
      width = at.width ∙ ap (λ (p : Place). width_of p.stage) e;
      walk =
          ap (λ (p : Place). lookup (shapes reads nr) (take p.size (drop p.offset set)) (state_at n s a)) (sym e)
          ∙ looked_up reads nr n h e at.made;
    }
