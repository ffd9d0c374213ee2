-- Laws, not definitions: a lookup of a set, for any number nr of rounds: the stage or half that it is one of, and the place of its table; and the
-- sizes of a set as the numbers that the code has.
-- Assumes nothing.
use mathlib.Core.Bool.{Bool, true, false, cond}
use mathlib.Core.Logic.{◌⊎◌}
use mathlib.Core.Path.{◌≡◌, refl, ◌∙◌}
use Prim.Native.Nat.{ℕ, ◌+◌, ◌*◌, ◌≤◌, ◌<◌}
use native.Mathlib.Nat.{le_refl}
use native.Mathlib.Omega.{arith}
use lib.Dec.{ltb}
use Rattle.network.specs.Order.{layer_lookups}
use Rattle.network.specs.Sizes.{size_of, layer_bytes}
use Rattle.layout.specs.Stages.{width_of, lookups, tables_bytes, set_bytes, table_size, table_offset, stage_of, first_byte_of, index_of, place_of}
use Rattle.layout.specs.declared.stage.Place.{Place}
use Rattle.layout.specs.declared.stage.Stage.{Stage}
use Rattle.layout.specs.declared.stage.Stage.TheVariants.{Entry, First, Second, Exit, Beyond}
use Rattle.layout.proofs.laws.Instance.{ends_in_tables}
use Rattle.layout.proofs.laws.Ranges.{in_stage, by_stage}

-- ---- the sizes of a set, as numbers: its lookups and its bytes
pub record Sizes (nr count bytes : ℕ) : Type 0 where
  pub all_lookups : lookups nr ≡ count
  pub all_bytes : set_bytes nr ≡ bytes

-- By their own names.
pub own_sizes : {nr : ℕ} → Sizes nr (lookups nr) (set_bytes nr)
own_sizes = record { all_lookups = refl; all_bytes = refl }

pub tables_in_set : (nr : ℕ) → tables_bytes nr ≤ set_bytes nr
unfolding set_bytes
tables_in_set nr = le_refl (tables_bytes nr)

-- ---- lookup n
-- The first lookup of a stage or half has its first byte.
pub first_byte : (nr n : ℕ) → n < lookups nr → index_of nr n ≡ 0 → table_offset nr n ≡ first_byte_of nr (stage_of nr n)
first_byte nr n h z = (by_stage nr).offset_is n h ∙ rw z (omega arith)

-- ---- the largest table is a spread table of the largest width
pub widest : (s : Stage) → width_of s ≤ 16
widest Entry = omega arith
widest (First r) = omega arith
widest (Second r) = omega arith
widest Exit = omega arith
widest Beyond = omega arith

largest : (b : Bool) (m : ℕ) → m ≤ 16 → cond b (256 * m) 128 ≤ 4096
largest true m h = omega arith
largest false m h = omega arith

-- ---- the place of lookup n
pub record Stands (nr n : ℕ) (p : Place) : Type 0 where
  pub width : (width_of p.stage ≡ 4) ⊎ (width_of p.stage ≡ 16)
  pub index : p.index < layer_lookups (width_of p.stage)
  pub kind : p.size ≡ size_of (width_of p.stage) p.index
  pub most : p.size ≤ 4096
  pub size : p.size ≡ table_size nr n
  pub offset : p.offset ≡ table_offset nr n
  pub end : p.offset + p.size ≤ tables_bytes nr
  -- Behind a first lookup's offset stand the tables of all of its stage or half.
  pub layer : p.index ≡ 0 → p.offset + layer_bytes (width_of p.stage) ≤ tables_bytes nr

pub stands : {nr n : ℕ} {p : Place} → n < lookups nr → p ≡ place_of nr n → Stands nr n p
stands {nr} {n} h e =
    rw e (record {
      width = (in_stage nr n h).width;
      index = unfold index_of in (in_stage nr n h).within;
      kind = kind;
      most = rw kind (largest (ltb (index_of nr n) 16) (width_of (stage_of nr n)) (widest (stage_of nr n)));
      size = refl;
      offset = refl;
      end = ends_in_tables nr n h;
      layer = λ z. omega (arith, first_byte nr n h z, (in_stage nr n h).bytes);
    })
  where
    kind : table_size nr n ≡ size_of (width_of (stage_of nr n)) (index_of nr n)
    kind = (by_stage nr).size_is n h
