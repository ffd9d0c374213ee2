-- Laws, not definitions: the stage of a lookup by ranges of its number is the layer that the network has there.
-- Assumes nothing.
use mathlib.Core.List.{List, ◌∷◌, ◌++◌, map, map-map, map-append}
use mathlib.Core.Logic.{◌⊎◌, inl, inr}
use mathlib.Core.Path.{◌≡◌, refl, sym, ap, ap₂, ◌∙◌, subst, fun_ext}
use Prim.Native.Nat.{ℕ, ◌+◌, ◌-◌, ◌*◌, ◌≤◌, ◌<◌}
use native.Mathlib.Decide.{dec_lt}
use native.Mathlib.Omega.{arith}
use borrow.Author.Tests.{lt-ltb, le-ltb}
use Rattle.network.specs.Lookups.{State, Shape, lookup_in, lookup_at}
use Rattle.network.specs.Numbers.{Numbers, start_numbers, numbers_after}
use Rattle.network.specs.Order.{layer_lookups}
use Rattle.network.specs.Read.{read_in, read_at}
use Rattle.network.specs.Rule.{Labels, labels, first_result, rule_in, rule_at}
use Rattle.network.specs.Sizes.{size_of, offset_of, layer_bytes, lookups_in, results_in, size_in_of, offset_in}
use Rattle.network.specs.Tables.{Layer, AllGood, widths_of, table_in, table_at}
use Rattle.network.proofs.laws.Layers.{lookup_past, table_past, rule_past, size_past, offset_past}
use Rattle.network.proofs.laws.Layers.{lookup_first, table_first, rule_first, size_first, offset_first}
use Rattle.network.proofs.laws.Layers.{lookup_none, size_none, offset_none}
use Rattle.network.proofs.laws.Read.{read_past, read_first}
use Rattle.network.proofs.laws.Rule.{rule_tables}
use Rattle.layout.specs.Stages.{stages, width_of, shape_at, shapes, widths, lookups, tables_bytes, set_bytes, encodings}
use Rattle.layout.specs.Stages.{table_size, table_offset, entry_lookups, half_lookups, stage_of, round_at, in_round, first_lookup, first_byte_of, numbers_of, index_of}
use Rattle.layout.specs.Theorems.{ByStage}
use Rattle.layout.specs.declared.stage.Stage.{Stage}
use Rattle.layout.specs.declared.stage.Stage.TheVariants.{Entry, First, Second, Exit, Beyond}
use Rattle.layout.proofs.laws.Instance.{stage_widths}
use Rattle.layout.proofs.laws.Stages.{lookups_16, lookups_4, bytes_16, bytes_4, Found, found_entry, found_first, found_second, found_exit}
use Rattle.layout.proofs.laws.Stages.{all_lookups_of, all_bytes_of, all_results_of, numbers_end, sums_16}

-- ---- the stage by the range
pub stage_entry : (nr k : ℕ) → k < entry_lookups → stage_of nr k ≡ Entry
unfolding stage_of
stage_entry nr k h = rw (lt-ltb k entry_lookups h)

module _ (nr k : ℕ) (lo : entry_lookups ≤ k) (hi : k < first_lookup nr Exit) where
  pub stage_first : in_round k < half_lookups → stage_of nr k ≡ First (round_at k)
  unfolding stage_of
  stage_first h = rw (le-ltb k entry_lookups lo, lt-ltb k (first_lookup nr Exit) hi, lt-ltb (in_round k) half_lookups h)

  pub stage_second : half_lookups ≤ in_round k → stage_of nr k ≡ Second (round_at k)
  unfolding stage_of
  stage_second h = rw (le-ltb k entry_lookups lo, lt-ltb k (first_lookup nr Exit) hi, le-ltb (in_round k) half_lookups h)

pub stage_exit : (nr k : ℕ) → first_lookup nr Exit ≤ k → k < first_lookup nr Beyond → stage_of nr k ≡ Exit
unfolding stage_of
stage_exit nr k lo hi =
    rw (le-ltb k entry_lookups (omega arith), le-ltb k (first_lookup nr Exit) lo, lt-ltb k (first_lookup nr Beyond) hi)

pub stage_beyond : (nr k : ℕ) → first_lookup nr Beyond ≤ k → stage_of nr k ≡ Beyond
unfolding stage_of
stage_beyond nr k lo =
    rw (le-ltb k entry_lookups (omega arith), le-ltb k (first_lookup nr Exit) (omega arith), le-ltb k (first_lookup nr Beyond) lo)

-- ---- by the round's number
module _ (nr r k : ℕ) (low : 1 ≤ r) (high : r < nr) where
  first_here : first_lookup nr (First r) ≤ k → k < first_lookup nr (Second r) → stage_of nr k ≡ First r
  first_here a b =
      let e : round_at k ≡ r = omega arith in
      stage_first nr k (omega arith) (omega arith) (omega arith) ∙ ap First e

  second_here : first_lookup nr (Second r) ≤ k → k < first_lookup nr (First (r + 1)) → stage_of nr k ≡ Second r
  second_here a b =
      let e : round_at k ≡ r = omega arith in
      stage_second nr k (omega arith) (omega arith) (omega arith) ∙ ap Second e

-- ---- all lookups
pub lookups_are : (nr : ℕ) → lookups nr ≡ first_lookup nr Beyond
unfolding lookups widths
lookups_are nr = all_lookups_of nr

-- What holds of the stage or half of lookup k, range by range.
pub by_range : (nr k : ℕ) → k < lookups nr → (P : Stage → Type 0)
    → (k < entry_lookups → P Entry)
    → ((r : ℕ) → 1 ≤ r → r < nr → first_lookup nr (First r) ≤ k → k < first_lookup nr (Second r) → P (First r))
    → ((r : ℕ) → 1 ≤ r → r < nr → first_lookup nr (Second r) ≤ k → k < first_lookup nr (First (r + 1)) → P (Second r))
    → (first_lookup nr Exit ≤ k → k < first_lookup nr Beyond → P Exit)
    → P (stage_of nr k)
by_range nr k h P entry first second exit =
    let all : k < first_lookup nr Beyond = omega (arith, lookups_are nr) in
    elim (dec_lt k entry_lookups) [
      | yes a ↦ subst P (sym (stage_entry nr k a)) (entry a)
      | no a ↦ elim (dec_lt k (first_lookup nr Exit)) [
        | no b ↦ subst P (sym (stage_exit nr k (omega arith) all)) (exit (omega arith) all)
        | yes b ↦ elim (dec_lt (in_round k) half_lookups) [
          | yes d ↦ subst P (sym (stage_first nr k (omega arith) b d))
              (first (round_at k) (omega arith) (omega arith) (omega arith) (omega arith))
          | no d ↦ subst P (sym (stage_second nr k (omega arith) b (omega arith)))
              (second (round_at k) (omega arith) (omega arith) (omega arith) (omega arith))
        ]
      ]
    ]

-- ---- lookup n is one of the stage or half s
pub record InStage (nr n : ℕ) (s : Stage) : Type 0 where
  pub found : Found nr s
  pub width : (width_of s ≡ 4) ⊎ (width_of s ≡ 16)
  pub from : first_lookup nr s ≤ n
  pub within : n - first_lookup nr s < layer_lookups (width_of s)
  pub room : first_lookup nr s + layer_lookups (width_of s) ≤ lookups nr
  pub bytes : first_byte_of nr s + layer_bytes (width_of s) ≤ tables_bytes nr
  pub same : (k : ℕ) → first_lookup nr s ≤ k → k < first_lookup nr s + layer_lookups (width_of s) → stage_of nr k ≡ s

tables_are : (nr : ℕ) → tables_bytes nr ≡ first_byte_of nr Beyond
unfolding tables_bytes widths
tables_are nr = all_bytes_of nr

-- It has `count` lookups, whose tables have `size` bytes.
in_layer : (nr n : ℕ) (s : Stage) (count size : ℕ) → Found nr s → (width_of s ≡ 4) ⊎ (width_of s ≡ 16)
    → layer_lookups (width_of s) ≡ count → layer_bytes (width_of s) ≡ size
    → first_lookup nr s ≤ n → n < first_lookup nr s + count → first_lookup nr s + count ≤ first_lookup nr Beyond → first_byte_of nr s + size ≤ first_byte_of nr Beyond
    → ((k : ℕ) → first_lookup nr s ≤ k → k < first_lookup nr s + count → stage_of nr k ≡ s) → InStage nr n s
in_layer nr n s count size f w c d lo hi room bytes same =
    record {
      found = f;
      width = w;
      from = lo;
      within = omega (arith, c);
      room = omega (arith, c, lookups_are nr);
      bytes = omega (arith, d, tables_are nr);
      same = λ k a b. same k a (omega (arith, c));
    }

pub in_stage : (nr n : ℕ) → n < lookups nr → InStage nr n (stage_of nr n)
in_stage nr n h =
    by_range nr n h (InStage nr n)
    (λ a. in_layer nr n Entry _ _ (found_entry nr) (inr refl) lookups_16 bytes_16 (omega arith) (omega arith) (omega arith) (omega arith)
    (λ k p q. stage_entry nr k (omega arith)))
    (λ r lo hi a b. in_layer nr n (First r) _ _ (subst (λ (x : ℕ). Found nr (First x)) (back r lo) (found_first nr (r - 1) (omega arith)))
    (inl refl) lookups_4 bytes_4 a (omega arith) (omega arith) (omega arith) (λ k p q. first_here nr r k lo hi p (omega arith)))
    (λ r lo hi a b. in_layer nr n (Second r) _ _ (subst (λ (x : ℕ). Found nr (Second x)) (back r lo) (found_second nr (r - 1) (omega arith)))
    (inl refl) lookups_4 bytes_4 a (omega arith) (omega arith) (omega arith) (λ k p q. second_here nr r k lo hi p (omega arith)))
    (λ a b. in_layer nr n Exit _ _ (found_exit nr) (inr refl) lookups_16 bytes_16 a (omega arith) (omega arith) (omega arith)
    (λ k p q. stage_exit nr k p (omega arith)))
  where
    back : (r : ℕ) → 1 ≤ r → r - 1 + 1 ≡ r
    back r lo = omega arith

-- ---- what is said by going through the layers
module _ (nr k : ℕ) (s : Stage) (at : InStage nr k s) where
  j : ℕ
  j = k - first_lookup nr s

  -- a map of the stages splits where they do
  split_map : {A : Type 0} (f : Stage → A) → map f (stages nr) ≡ map f at.found.before ++ (f s ∷ map f at.found.behind)
  split_map f = ap (map f) at.found.split ∙ map-append f at.found.before (s ∷ at.found.behind)

  count_is : (ms : List ℕ) → ms ≡ map width_of at.found.before → k ≡ lookups_in ms + j
  unfolding j
  count_is ms e = omega (arith, at.from, at.found.lookups_before, ap lookups_in e)

  lookup_in_lem : (reads : ℕ → ℕ) (t : List ℕ) (w : State) → lookup_at (shapes reads nr) k t w ≡ lookup_in (shape_at reads s) j t w
  unfolding shapes
  lookup_in_lem reads t w =
      let As : List Shape = map (shape_at reads) at.found.before in
      let widths_before = map-map (λ (S : Shape). S.width) (shape_at reads) at.found.before in
      ap₂ (λ (Ss : List Shape) (n : ℕ). lookup_at Ss n t w) (split_map (shape_at reads)) (count_is (map (λ (S : Shape). S.width) As) widths_before)
      ∙ lookup_past As (shape_at reads s ∷ map (shape_at reads) at.found.behind) j t w
      ∙ lookup_first (shape_at reads s) (map (shape_at reads) at.found.behind) j t w (unfold j in at.within)

  read_in_lem : (reads : ℕ → ℕ) (from : ℕ) (standing area : List ℕ)
      → read_at (shapes reads nr) k from standing area ≡ read_in (shape_at reads s) j from standing area
  unfolding shapes
  read_in_lem reads from standing area =
      let As : List Shape = map (shape_at reads) at.found.before in
      let Bs : List Shape = map (shape_at reads) at.found.behind in
      let widths_before = map-map (λ (S : Shape). S.width) (shape_at reads) at.found.before in
      ap₂ (λ (Ss : List Shape) (n : ℕ). read_at Ss n from standing area) (split_map (shape_at reads)) (count_is (map (λ (S : Shape). S.width) As) widths_before)
      ∙ read_past As (shape_at reads s ∷ Bs) j from standing area
      ∙ read_first (shape_at reads s) Bs j from standing area (unfold j in at.within)

  size_in : table_size nr k ≡ size_of (width_of s) j
  unfolding table_size widths
  size_in =
      ap₂ size_in_of (split_map width_of) (count_is (map width_of at.found.before) refl)
      ∙ size_past (map width_of at.found.before) (width_of s ∷ map width_of at.found.behind) j
      ∙ size_first (width_of s) (map width_of at.found.behind) j (unfold j in at.within)

  offset_in_lem : table_offset nr k ≡ first_byte_of nr s + offset_of (width_of s) j
  unfolding table_offset widths
  offset_in_lem =
      ap₂ offset_in (split_map width_of) (count_is (map width_of at.found.before) refl)
      ∙ offset_past (map width_of at.found.before) (width_of s ∷ map width_of at.found.behind) j
      ∙ ap₂ (λ (x y : ℕ). x + y) at.found.bytes_before (offset_first (width_of s) (map width_of at.found.behind) j (unfold j in at.within))

  -- The layers F of the stages before s, and their widths.
  module _ (F : Stage → Layer) (e : (s : Stage) → (F s).width ≡ width_of s) where
    abbrev As : List Layer
    As = map F at.found.before

    widths_before : widths_of As ≡ map width_of at.found.before
    widths_before = map-map (λ (L : Layer). L.width) F at.found.before ∙ ap (λ (f : Stage → ℕ). map f at.found.before) (fun_ext e)

    inside : j < layer_lookups (F s).width
    inside = subst (λ (m : ℕ). j < layer_lookups m) (sym (e s)) (unfold j in at.within)

    table_in_lem : (E : ℕ → List ℕ) → table_at E (map F (stages nr)) start_numbers k ≡ table_in E (F s) (numbers_of nr s) j
    table_in_lem E =
        ap₂ (λ (Ls : List Layer) (n : ℕ). table_at E Ls start_numbers n) (split_map F) (count_is (widths_of As) widths_before)
        ∙ table_past E As (F s ∷ map F at.found.behind) start_numbers j
        ∙ table_first E (F s) (map F at.found.behind) (numbers_after (widths_of As) start_numbers) j inside
        ∙ ap (λ (N : Numbers). table_in E (F s) N j) (ap (λ (ms : List ℕ). numbers_after ms start_numbers) widths_before ∙ at.found.numbers_before)

    rule_in_lem : (E : ℕ → List ℕ) (n : ℕ) (T : Labels) → rule_at E (map F (stages nr)) k n T ≡ rule_in E (F s) j n T
    rule_in_lem E n T =
        ap₂ (λ (Ls : List Layer) (i : ℕ). rule_at E Ls i n T) (split_map F) (count_is (widths_of As) widths_before)
        ∙ rule_past E As (F s ∷ map F at.found.behind) j n T
        ∙ rule_first E (F s) (map F at.found.behind) j n T inside

-- ---- the statement
pub by_stage : (nr : ℕ) → ByStage nr
unfolding index_of tables_bytes set_bytes encodings widths numbers_of j
by_stage nr =
    record {
      all_lookups = lookups_are nr;
      table_bytes = all_bytes_of nr;
      all_bytes = all_bytes_of nr;
      all_encodings = ap (λ (n : ℕ). 32 + n) (all_results_of nr) ∙ omega arith;
      output_numbers = output;
      lookup_is = λ reads k h t w. lookup_in_lem nr k (stage_of nr k) (at k h) reads t w;
      read_is = λ reads k h from standing area. read_in_lem nr k (stage_of nr k) (at k h) reads from standing area;
      table_is = λ E F e k h. table_in_lem nr k (stage_of nr k) (at k h) F e E;
      table_by_rule_lem = by_rule;
      size_is = λ k h. size_in nr k (stage_of nr k) (at k h);
      offset_is = λ k h. offset_in_lem nr k (stage_of nr k) (at k h);
      lookup_none = λ reads k h t w. none_looked reads k h t w;
      size_none = λ k h. unfold table_size in size_none (map width_of (stages nr)) k (all k h);
      offset_none = λ k h. unfold table_offset in offset_none (map width_of (stages nr)) k (all k h);
    }
  where
    output : (q : ℕ) → q < 32 → (numbers_after (map width_of (stages nr)) start_numbers).standing q ≡ 32 + results_in (map width_of (stages nr)) - 32 + q
    output q b =
        ap (λ (N : Numbers). N.standing q) (numbers_end nr)
        ∙ sums_16 (1024 + 448 * (nr - 1)) q b
        ∙ omega (arith, all_results_of nr)

    at : (k : ℕ) → k < lookups nr → InStage nr k (stage_of nr k)
    at = in_stage nr

    by_rule : (E : ℕ → List ℕ) (F : Stage → Layer) → ((s : Stage) → (F s).width ≡ width_of s) → AllGood (map F (stages nr)) → (k : ℕ) → k < lookups nr
        → table_at E (map F (stages nr)) start_numbers k
        ≡ rule_in E (F (stage_of nr k)) (k - first_lookup nr (stage_of nr k)) (first_result (widths nr) k) (labels (widths nr) k)
    by_rule E F e good k h =
        rule_tables E (map F (stages nr)) good k (subst (λ (ms : List ℕ). k < lookups_in ms) (sym (stage_widths F e nr)) (unfold lookups in h))
        ∙ ap (λ (ms : List ℕ). rule_at E (map F (stages nr)) k (first_result ms k) (labels ms k)) (stage_widths F e nr)
        ∙ rule_in_lem nr k (stage_of nr k) (at k h) F e E (first_result (widths nr) k) (labels (widths nr) k)

    all : (k : ℕ) → lookups nr ≤ k → lookups_in (map width_of (stages nr)) ≤ k
    all k h = omega (arith, lookups_are nr, all_lookups_of nr)

    none_looked : (reads : ℕ → ℕ) (k : ℕ) → lookups nr ≤ k → (t : List ℕ) (w : State) → lookup_at (shapes reads nr) k t w ≡ w
    none_looked reads k h t w =
        unfold shapes in
        lookup_none (map (shape_at reads) (stages nr)) k t w
        (subst (λ (ms : List ℕ). lookups_in ms ≤ k) (sym (map-map (λ (S : Shape). S.width) (shape_at reads) (stages nr))) (all k h))
