-- Laws, not definitions: the two loops over a walk, one that writes its record and one that compares a record with it, a stage or half a turn, for any number nr of
-- rounds.
-- Assumes nothing.
use mathlib.Core.Bool.{Bool, false, not}
use mathlib.Core.List.{List}
use mathlib.Core.Logic.{⊎_elim}
use mathlib.Core.Path.{◌≡◌, sym, ap, ap₂, ◌∙◌, subst}
use Prim.Native.Nat.{ℕ, ◌+◌, ◌-◌, ◌*◌, ◌≤◌, ◌<◌}
use native.Mathlib.Decide.{dec_lt}
use native.Mathlib.Omega.{arith}
use borrow.Author.Count.{below_none}
use borrow.Rule.Slice.PartMut.{put_mid, same_len_mid}
use lib.ListN.{length, length-take, length-drop}
use Rattle.answers.specs.Search.{FirstBad, first}
use Rattle.answers.proofs.laws.Search.{none_all, all_none, at_bad, bad_at}
use Rattle.bits.specs.Lists.{concat, part_of}
use Rattle.bits.proofs.laws.Lists.{cut}
use Rattle.bits.proofs.laws.Offsets.{concat_row}
use Rattle.bits.proofs.laws.Parts.{Parts, parts_none, parts_all}
use Rattle.network.specs.Lookups.{state_at, zero_area}
use Rattle.network.specs.Order.{layer_lookups}
use Rattle.network.proofs.laws.Order.{layer_lookups_lem}
use Rattle.rounds.specs.Rounds.{Rounds}
use Rattle.layout.specs.Ciphers.{reads_of}
use Rattle.layout.specs.Stages.{width_of, shape_at, lookups, set_bytes, entry_lookups, stage_of, index_of, place_of}
use Rattle.layout.specs.declared.stage.Place.{Place}
use Rattle.layout.proofs.laws.Ranges.{in_stage}
use Rattle.layout.proofs.laws.Rounds.{most_lookups}
use Rattle.layout.proofs.laws.Stages.{lookups_16, lookups_4}
use Rattle.calls.specs.Calls.{state_from}
use Rattle.lookups.specs.InPlace.{offset_limit}
use Rattle.lookups.specs.Layer.{LayerStands}
use Rattle.passes.proofs.laws.Places.{place_width, place_holds}
use Rattle.passes.proofs.laws.Walking.{Walking, walking_none}
use Rattle.layer_record.specs.Entries.{entry_size}
use Rattle.layer_record.specs.Layer.{LayerRecorded}
use Rattle.layer_record.proofs.laws.Entries.{length_written}
use Rattle.records.specs.InPlace.{other_in, CompareAsked, LayerCompared}
use Rattle.records.specs.Record.{entry_at, record_of, record_bytes}
use Rattle.records.specs.Replay.{same, differs_at}
use Rattle.records.proofs.laws.Recorded.{layer_left, layer_walked, parts_several, part_of_part}
use Rattle.passes.proofs.laws.Stages.{starts, next_starts}
use Rattle.std.specs.Prelude.{Option, Some, None}

-- ---- the walk, at the first lookup n of a stage or half or behind the last
pub record Standing (c nr : ℕ) (set block s a : List ℕ) (n : ℕ) : Type 0 where
  pub within : n ≤ lookups nr
  pub first : n < lookups nr → index_of nr n ≡ 0
  pub walk : Walking (reads_of c) nr set block s a n

standing_none : {c nr : ℕ} {set block s : List ℕ} → s ≡ block → Standing c nr set block s zero_area 0
unfolding index_of
standing_none e = record { within = omega arith; first = λ h. omega arith; walk = walking_none e }

-- ---- a stage or half, by its place p, of which the code has the width m and the number of lookups
pub record Counted (nr n : ℕ) (p : Place) (m all : ℕ) : Type 0 where
  pub inside : n < lookups nr
  pub place : p ≡ place_of nr n
  pub width : m ≡ width_of p.stage
  pub count : all ≡ layer_lookups m

module _ {nr n : ℕ} {p : Place} {m all : ℕ} (H : Counted nr n p m all) where
  count_is : all ≡ layer_lookups (width_of p.stage)
  count_is = H.count ∙ ap layer_lookups H.width

  all_is : all ≡ layer_lookups (width_of (stage_of nr n))
  all_is = count_is ∙ ap (λ (p : Place). layer_lookups (width_of p.stage)) H.place

  pub all_some : 0 < all
  all_some = omega (arith, H.count, layer_lookups_lem m)

  -- The entry and the exit have the most lookups.
  pub all_most : all ≤ entry_lookups
  all_most =
      ⊎_elim
      (λ e. subst (λ (k : ℕ). k ≤ entry_lookups) (sym (H.count ∙ ap layer_lookups e)) (omega (arith, lookups_4)))
      (λ e. subst (λ (k : ℕ). k ≤ entry_lookups) (sym (H.count ∙ ap layer_lookups e)) (omega (arith, lookups_16)))
      (place_width nr n H.inside H.place H.width)

  module _ {c : ℕ} {set block s a : List ℕ} (W : Standing c nr set block s a n) where
    pub all_within : n + all ≤ lookups nr
    all_within = omega (arith, all_is, starts nr n H.inside (W.first H.inside), (in_stage nr n H.inside).room)

    -- No sum of the code wraps.
    pub all_fits : Rounds nr → n + all ≤ offset_limit
    all_fits R = omega (arith, all_within, most_lookups nr R)

    -- What `record_layer` asks.
    pub layer_stands : Rounds nr → length set ≡ set_bytes nr → LayerStands p.stage p.offset (length set)
    layer_stands R l = place_holds nr n H.inside H.place R l (ap (λ (p : Place). p.index) H.place ∙ W.first H.inside)

    module _ {s' a' left : List ℕ} (r : LayerRecorded (shape_at (reads_of c) p.stage) set p.offset s a s' a' left) where
      recorded_there : LayerRecorded (shape_at (reads_of c) (stage_of nr n)) set (place_of nr n).offset s a s' a' left
      recorded_there = subst (λ (p : Place). LayerRecorded (shape_at (reads_of c) p.stage) set p.offset s a s' a' left) H.place r

      -- What is recorded is what the record of the walk has.
      left_is : left ≡ concat all (λ k. entry_at c nr set block (n + k))
      left_is =
          layer_left c nr set block n H.inside (W.first H.inside) s a W.walk.walk recorded_there
          ∙ ap (λ (k : ℕ). concat k (λ k. entry_at c nr set block (n + k))) (sym all_is)

      standing_next : Standing c nr set block s' a' (n + all)
      standing_next =
          record {
            within = all_within;
            first = λ b.
                ap (λ (k : ℕ). index_of nr (n + k)) all_is
                ∙ next_starts nr n H.inside (W.first H.inside) (omega (arith, all_is));
            walk = record {
              walk = subst (λ (k : ℕ). state_from (reads_of c) nr set block (n + k) ≡ state_at (n + k) s' a') (sym all_is)
                  (layer_walked c nr set block n H.inside (W.first H.inside) s a W.walk.walk recorded_there);
            };
          }

-- ---- the record is written: of the memory d₀, which d has become, the first n entries are those of the walk
pub record Recording (c nr : ℕ) (set block d₀ d s a : List ℕ) (n : ℕ) : Type 0 where
  pub stands : Standing c nr set block s a n
  pub parts : Parts (lookups nr) entry_size (entry_at c nr set block) d₀ d n

pub recording_none : {c nr : ℕ} {set block d s : List ℕ} → s ≡ block → length d ≡ record_bytes nr → Recording c nr set block d d s zero_area 0
recording_none e l = record { stands = standing_none e; parts = parts_none (omega arith) }

module _ {c nr : ℕ} {set block d₀ d s a : List ℕ} {n : ℕ} (R : Recording c nr set block d₀ d s a n) where
  module _ {p : Place} {m all : ℕ} (H : Counted nr n p m all) where
    -- The part of the memory for the lookups of a stage or half.
    pub layer_room : (n + all) * entry_size ≤ length d
    layer_room = omega (arith, all_within H R.stands, R.parts.room, R.parts.long)

    pub layer_part : length (cut d (n * entry_size) ((n + all) * entry_size)) ≡ layer_lookups (width_of p.stage) * entry_size
    layer_part = simp (length-take, length-drop) (omega (arith, layer_room, count_is H))

    -- The lookups are made, and the part comes back with what is recorded of them.
    pub recording_more : {s' a' ys : List ℕ} → LayerRecorded (shape_at (reads_of c) p.stage) set p.offset s a s' a' ys
        → length ys ≡ length (cut d (n * entry_size) ((n + all) * entry_size))
        → Recording c nr set block d₀ (put_mid (n * entry_size) ((n + all) * entry_size - n * entry_size) d ys) s' a' (n + all)
    recording_more r l =
        record {
          stands = standing_next H R.stands r;
          parts = parts_several R.parts all (all_within H R.stands) layer_room l (left_is H R.stands r);
        }

  pub recording_all : lookups nr ≤ n → length d₀ ≡ record_bytes nr → d ≡ record_of c nr set block
  unfolding record_of
  recording_all h l = parts_all R.parts h l

-- ---- a record is compared: its first n entries are those of the walk, and `own` has room for what is recorded of a stage or half
pub record Comparing (c nr : ℕ) (set block rec s a own : List ℕ) (n : ℕ) : Type 0 where
  pub stands : Standing c nr set block s a n
  pub before : (i : ℕ) → i < n → differs_at c nr set block rec i ≡ false
  pub room : length own ≡ entry_lookups * entry_size

pub comparing_none : {c nr : ℕ} {set block rec s own : List ℕ} → s ≡ block → length own ≡ entry_lookups * entry_size
    → Comparing c nr set block rec s zero_area own 0
comparing_none e r = record { stands = standing_none e; before = below_none _; room = r }

module _ {c nr : ℕ} {set block rec s a own : List ℕ} {n : ℕ} (C : Comparing c nr set block rec s a own n) where
  module _ {p : Place} {m all : ℕ} (H : Counted nr n p m all) (whole : length rec ≡ record_bytes nr) where
    abbrev part : List ℕ
    part = cut rec (n * entry_size) ((n + all) * entry_size)

    -- The part of the record for the lookups of a stage or half, and what `compare_layer` asks.
    pub record_room : (n + all) * entry_size ≤ length rec
    record_room = omega (arith, all_within H C.stands)

    pub own_room : all * entry_size ≤ length own
    own_room = omega (arith, all_most H, C.room)

    pub compare_asked : Rounds nr → length set ≡ set_bytes nr
        → CompareAsked p.stage p.offset (length set) all (cut rec (n * entry_size) ((n + all) * entry_size)) (cut own 0 (all * entry_size))
    compare_asked R l = record {
      stands = layer_stands H C.stands R l;
      counted = count_is H;
      record_sized = simp (length-take, length-drop) (omega (arith, record_room));
      own_sized = simp (length-take, length-drop) (omega (arith, own_room));
    }

    -- The lookups are made, with what is recorded of them in ys, and f is the first that differs.
    module _ {s' a' ys : List ℕ} {f : Option ℕ}
        (r : LayerCompared (shape_at (reads_of c) p.stage) set p.offset s a s' a' (cut rec (n * entry_size) ((n + all) * entry_size)) ys all f) where
      abbrev others : ℕ → Bool
      others = other_in part ys

      other_is : (i : ℕ) → i < all → others i ≡ differs_at c nr set block rec (n + i)
      unfolding part_of
      other_is i b =
          ap₂ (λ (u v : List ℕ). not (same u v)) (part_of_part entry_size rec n all i record_room b)
          (ap (λ (l : List ℕ). part_of entry_size l i) (left_is H C.stands r.made)
          ∙ concat_row entry_size (λ k. entry_at c nr set block (n + k)) all (λ k b. length_written _) i b)

      -- Where the first k of them are the same, the first n + k lookups are.
      passed : (k : ℕ) → k ≤ all → ((i : ℕ) → i < k → others i ≡ false) → (i : ℕ) → i < n + k → differs_at c nr set block rec i ≡ false
      passed k h e i b = elim (dec_lt i n) [
        | yes q ↦ C.before i q
        | no q ↦
            let same : n + (i - n) ≡ i = omega arith in
            subst (λ (j : ℕ). differs_at c nr set block rec j ≡ false) same
            (sym (other_is (i - n) (omega arith)) ∙ e (i - n) (omega arith))
      ]

      -- Lookup k of them is the first that differs.
      module _ {k : ℕ} (e : f ≡ Some k) where
        first_here : FirstBad all (λ i. others i ≡ false) k
        first_here = at_bad all others (λ i. others i ≡ false) (λ i e. e) (λ i e. e) k (sym r.found ∙ e)

        pub found_below : k < all
        found_below = first_here.below

        pub comparing_here : Some (n + k) ≡ first (lookups nr) (differs_at c nr set block rec)
        comparing_here =
            sym (bad_at (lookups nr) (differs_at c nr set block rec) (λ i. differs_at c nr set block rec i ≡ false) (λ i e. e) (λ i e. e) (n + k)
            (record {
              below = omega (arith, first_here.below, all_within H C.stands);
              before = passed k (omega (arith, first_here.below)) first_here.before;
              here = λ no. first_here.here (other_is k first_here.below ∙ no);
            }))

      -- None does, and the part of `own` comes back with ys.
      pub comparing_next : f ≡ None → length ys ≡ length (cut own 0 (all * entry_size))
          → Comparing c nr set block rec s' a' (put_mid 0 (all * entry_size - 0) own ys) (n + all)
      comparing_next e l =
          record {
            stands = standing_next H C.stands r.made;
            before = passed all (omega arith) (none_all all others (λ i. others i ≡ false) (λ i e. e) (λ i e. e) (sym r.found ∙ e));
            room = same_len_mid 0 (all * entry_size - 0) own ys l ∙ C.room;
          }

  pub comparing_all : lookups nr ≤ n → None ≡ first (lookups nr) (differs_at c nr set block rec)
  comparing_all h =
      sym (all_none (lookups nr) (differs_at c nr set block rec) (λ i. differs_at c nr set block rec i ≡ false) (λ i e. e) (λ i e. e)
      (λ i b. C.before i (omega arith)))
