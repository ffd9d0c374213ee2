-- Laws, not definitions: the tables of a set, one after the other; and a network with a layer for each stage: its shapes, its widths, and the
-- lengths of its tables.
-- Assumes nothing.
use mathlib.Core.List.{List, [], ◌∷◌, ◌++◌, map, map-map}
use mathlib.Core.Path.{◌≡◌, ap, ◌∙◌, subst, fun_ext}
use Prim.Native.Nat.{ℕ, zero, suc, ◌+◌, ◌-◌, ◌≤◌, ◌<◌}
use native.Mathlib.Nat.{le_refl}
use lib.ListN.{length, take, drop}
use Rattle.bits.specs.Lists.{concat}
use Rattle.bits.proofs.laws.Offsets.{offset_mono}
use Rattle.network.specs.Lookups.{Shape}
use Rattle.network.specs.Numbers.{start_numbers}
use Rattle.network.specs.Sizes.{lookups_in, size_in_of, offset_in}
use Rattle.network.specs.Tables.{Layer, Good, AllGood, shape_of, shapes_of, widths_of, table_at}
use Rattle.network.proofs.laws.Layers.{offset_none}
use Rattle.network.proofs.laws.Sizes.{offset_zero, offset_suc, length_table, set_length, set_part}
use Rattle.layout.specs.Stages.{rounds, stages, width_of, shape_at, shapes, widths, lookups, tables_bytes, table_size, table_offset}
use Rattle.layout.specs.declared.stage.Stage.{Stage}
use Rattle.layout.specs.declared.stage.Stage.TheVariants.{Entry, First, Second, Exit}

-- ---- the tables of a set, of the right sizes, one after the other
pub first_offset : (nr : ℕ) → table_offset nr 0 ≡ 0
unfolding table_offset
first_offset nr = offset_zero (widths nr)

pub next_offset : (nr k : ℕ) → k < lookups nr → table_offset nr (suc k) ≡ table_offset nr k + table_size nr k
unfolding lookups table_offset table_size
next_offset nr k h = offset_suc (widths nr) k h

module _ (nr : ℕ) (t : ℕ → List ℕ) (long : (k : ℕ) → k < lookups nr → length (t k) ≡ table_size nr k) where
  pub tables_length : length (concat (lookups nr) t) ≡ tables_bytes nr
  unfolding lookups tables_bytes table_size
  tables_length = set_length (widths nr) t long

  pub set_table : (k : ℕ) → k < lookups nr → take (table_size nr k) (drop (table_offset nr k) (concat (lookups nr) t)) ≡ t k
  unfolding lookups table_size table_offset
  set_table k h = set_part (widths nr) t long k h

-- A table ends within the tables.
pub ends_in_tables : (nr k : ℕ) → k < lookups nr → table_offset nr k + table_size nr k ≤ tables_bytes nr
unfolding lookups tables_bytes table_size table_offset
ends_in_tables nr k h =
    subst (λ (x : ℕ). offset_in (widths nr) k + size_in_of (widths nr) k ≤ x) (offset_none (widths nr) (lookups_in (widths nr)) (le_refl (lookups_in (widths nr))))
    (upto (lookups_in (widths nr)) h (le_refl (lookups_in (widths nr))))
  where
    upto : (i : ℕ) → k < i → i ≤ lookups_in (widths nr) → offset_in (widths nr) k + size_in_of (widths nr) k ≤ offset_in (widths nr) i
    upto i a b = offset_mono (size_in_of (widths nr)) (offset_in (widths nr)) (lookups_in (widths nr)) (offset_suc (widths nr)) i k a b

-- ---- a layer for each stage
module _ (F : Stage → Layer) where
  good_rounds : ((r : ℕ) → Good (F (First r))) → ((r : ℕ) → Good (F (Second r))) → Good (F Exit) → (r n : ℕ) → AllGood (map F (rounds r n ++ (Exit ∷ [])))
  unfolding rounds
  good_rounds first second exit r zero = (exit, tt)
  good_rounds first second exit r (suc n) = (first r, (second r, good_rounds first second exit (suc r) n))

  pub good_stages : (nr : ℕ) → Good (F Entry) → ((r : ℕ) → Good (F (First r))) → ((r : ℕ) → Good (F (Second r))) → Good (F Exit) → AllGood (map F (stages nr))
  unfolding stages
  good_stages nr entry first second exit = (entry, good_rounds first second exit 1 (nr - 1))

  pub stage_shapes : (reads : ℕ → ℕ) → ((s : Stage) → shape_of (F s) ≡ shape_at reads s) → (nr : ℕ) → shapes_of (map F (stages nr)) ≡ shapes reads nr
  unfolding shapes
  stage_shapes reads e nr = map-map shape_of F (stages nr) ∙ ap (λ (f : Stage → Shape). map f (stages nr)) (fun_ext e)

  pub stage_widths : ((s : Stage) → (F s).width ≡ width_of s) → (nr : ℕ) → widths_of (map F (stages nr)) ≡ widths nr
  unfolding widths
  stage_widths e nr = map-map (λ (L : Layer). L.width) F (stages nr) ∙ ap (λ (f : Stage → ℕ). map f (stages nr)) (fun_ext e)

  -- its tables have the sizes of the set's
  pub stage_table_length : ((s : Stage) → (F s).width ≡ width_of s) → (E : ℕ → List ℕ) (nr k : ℕ) → length (table_at E (map F (stages nr)) start_numbers k) ≡ table_size nr k
  unfolding table_size
  stage_table_length e E nr k = length_table E (map F (stages nr)) start_numbers k ∙ ap (λ (ms : List ℕ). size_in_of ms k) (stage_widths e nr)
