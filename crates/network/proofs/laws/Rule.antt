-- Laws, not definitions: the encodings of the tables and of the values due are those of the rule of the last writer.
-- Assumes nothing.
use mathlib.Core.Bool.{Bool, true, false, cond}
use mathlib.Core.List.{List, [], ◌∷◌, map}
use mathlib.Core.Path.{◌≡◌, refl, sym, ap, ap₂, ◌∙◌}
use Prim.Native.Nat.{ℕ, suc, ◌+◌, ◌-◌, ◌*◌, ◌/◌, ◌%◌, ◌≤◌, ◌<◌, min}
use native.Mathlib.Decide.{dec_lt}
use native.Mathlib.Nat.{not-suc-le-zero}
use native.Mathlib.Omega.{arith}
use borrow.Author.Tests.{lt-ltb, le-ltb}
use lib.Dec.{ltb}
use Rattle.bits.specs.Nibbles.{nibble}
use Rattle.network.specs.Due.{Values, Due, held, blank, due_in, standing_due, area_due}
use Rattle.network.specs.Numbers.{Numbers, encoding_number, next_numbers, start_numbers}
use Rattle.network.specs.Order.{layer_lookups, nibble_of, added_of, sum_of, sum_place, added_place}
use Rattle.network.specs.Rule.{Label, under, label_of, Labels, labels, rule_in, rule_at}
use Rattle.network.specs.Sizes.{lookups_in}
use Rattle.network.specs.Tables.{Layer, Good, AllGood, widths_of, spread_entry, spread_table, xor_entry, xor_table, table_in, table_at}
use Rattle.network.specs.Theorems.{GoodWidths, RuleLabels, RuleTables}
use Rattle.network.proofs.laws.Labels.{area_label, result_in, result_at, closed_labels, Agree, first_is, area_held, number_xor, agree_in, agree_past, labels_are}
use Rattle.network.proofs.laws.Order.{at_div, at_mod, xor_in, added_here, added_to_added, added_word_lt, nibble_in, place_lt}

pub good_widths : (Ls : List Layer) → AllGood Ls → GoodWidths (widths_of Ls)
good_widths [] g = tt
good_widths (L ∷ Ls) g = (g.0.groups, good_widths Ls g.1)

-- ---- the tables
module _ (E : ℕ → List ℕ) where
  module _ (L : Layer) (good : Good L) (N : Numbers) (T : Labels) where
    abbrev Labelled : ℕ → Type 0
    Labelled j = Agree T (record { standing = N.standing; area = area_label L.width N.first j })

    spread_rule : (j : ℕ) → j < 16 → Labelled j → (n : ℕ) → n ≡ N.first + j * (2 * L.width) → table_in E L N j ≡ rule_in E L j n T
    unfolding table_in rule_in spread_table spread_entry encoding_number
    spread_rule j l a n e =
        rw (lt-ltb j 16 l, a.stands (2 * L.source j) (omega (arith, good.reads j l)), a.stands (2 * L.source j + 1) (omega (arith, good.reads j l)), e)

    xor_rule : (j : ℕ) → 16 ≤ j → j < layer_lookups L.width → Labelled j → (n : ℕ) → n ≡ N.first + 16 * (2 * L.width) + (j - 16)
        → table_in E L N j ≡ rule_in E L j n T
    unfolding table_in rule_in xor_table xor_entry
    xor_rule j l b a n e =
        let sum_label = a.areas (sum_place m x) (place_lt m good.groups w h wl hl) in
        let added-label = a.areas (added_place m x) (place_lt m good.groups (w + suc d) h wl' hl) in
        rw (le-ltb j 16 l, sum_label, added-label, sum_is, added_is, e, number_xor m good.groups N.first x)
      where
        m : ℕ
        m = L.width

        x : ℕ
        x = j - 16

        w : ℕ
        w = sum_of m x

        d : ℕ
        d = added_of m x

        h : ℕ
        h = nibble_of m x

        wl' : w + suc d < 16
        wl' = added_word_lt m good.groups x (xor_in m j l b)

        wl : w < 16
        wl = omega (arith, wl')

        hl : h < 2 * m
        hl = nibble_in m good.groups x

        sum_is : area_label m N.first j (sum_place m x) ≡ under (encoding_number m N.first w d h)
        sum_is =
            area_held m N.first j (sum_place m x) w h d (at_div (2 * m) w h hl) (at_mod (2 * m) w h hl) (omega (arith, wl)) wl
            (added_here m good.groups x)

        added_is : area_label m N.first j (added_place m x) ≡ under (encoding_number m N.first (w + suc d) 0 h)
        added_is =
            area_held m N.first j (added_place m x) (w + suc d) h 0 (at_div (2 * m) (w + suc d) h hl) (at_mod (2 * m) (w + suc d) h hl) (omega (arith, wl')) wl'
            (added_to_added m good.groups x x h)

    layer_rule : (j : ℕ) → j < layer_lookups L.width → Labelled j → table_in E L N j ≡ rule_in E L j (result_in L.width N.first j) T
    layer_rule j b a = elim (dec_lt j 16) [
      | yes l ↦ spread_rule j l a (result_in L.width N.first j) (rw (lt-ltb j 16 l))
      | no l ↦ xor_rule j (omega arith) b a (result_in L.width N.first j) (rw (le-ltb j 16 (omega arith)))
    ]

  rule_step : (Ls : List Layer) → AllGood Ls → (N : Numbers) (k : ℕ) → k < lookups_in (widths_of Ls) → (T : Labels) → Agree T (closed_labels (widths_of Ls) N k)
      → table_at E Ls N k ≡ rule_at E Ls k (result_at (widths_of Ls) N.first k) T
  unfolding table_at rule_at result_at lookups_in
  rule_step [] g N k h T a = absurd (not-suc-le-zero h)
  rule_step (L ∷ Ls) g N k h T a = go (dec_lt k S) (λ c b. rule_step Ls g.1 (next_numbers L.width N) (k - S) c T b)
    where
      S : ℕ
      S = layer_lookups L.width

      go : Dec (k < S)
          → (k - S < lookups_in (widths_of Ls) → Agree T (closed_labels (widths_of Ls) (next_numbers L.width N) (k - S))
          → table_at E Ls (next_numbers L.width N) (k - S) ≡ rule_at E Ls (k - S) (result_at (widths_of Ls) (next_numbers L.width N).first (k - S)) T)
          → table_at E (L ∷ Ls) N k ≡ rule_at E (L ∷ Ls) k (result_at (widths_of (L ∷ Ls)) N.first k) T
      go (yes l) ih = rw (lt-ltb k S l) (layer_rule L g.0 N T k l (agree_in L.width (widths_of Ls) N k T a l))
      go (no l) ih =
          unfold next_numbers in
          rw (le-ltb k S (omega arith)) (ih (omega arith) (agree_past L.width (widths_of Ls) N k T a (omega arith)))

pub rule_tables : RuleTables
unfolding start_numbers
rule_tables E Ls g k h =
    let ms : List ℕ = widths_of Ls in
    rule_step E Ls g start_numbers k h (labels ms k) (labels_are ms (good_widths Ls g) k (omega arith))
    ∙ ap (λ (n : ℕ). rule_at E Ls k n (labels ms k)) (sym (first_is ms k (omega arith)))

-- ---- the values due
abbrev widths_in : List Values → List ℕ
widths_in Ds = map (λ (D : Values). D.width) Ds

label_cond : (t : Bool) (a b : Due) → label_of (cond t a b) ≡ cond t (label_of a) (label_of b)
label_cond true a b = refl
label_cond false a b = refl

pick_standing : (t : Bool) (A B : Labels) (q : ℕ) → cond t (under (A.standing q)) (under (B.standing q)) ≡ under ((cond t A B).standing q)
pick_standing true A B q = refl
pick_standing false A B q = refl

pick_area : (t : Bool) (A B : Labels) (q : ℕ) → cond t (A.area q) (B.area q) ≡ (cond t A B).area q
pick_area true A B q = refl
pick_area false A B q = refl

standing_labels : (Ds : List Values) (left : List ℕ) (N : Numbers) (k q : ℕ)
    → label_of (standing_due Ds left N k q) ≡ under ((closed_labels (widths_in Ds) N k).standing q)
unfolding standing_due closed_labels
standing_labels [] left N k q = refl
standing_labels (D ∷ Ds) left N k q =
    let S = layer_lookups D.width in
    label_cond (ltb k S) (held (N.standing q) (nibble D.standing q)) (standing_due Ds left (next_numbers D.width N) (k - S) q)
    ∙ ap (cond (ltb k S) (under (N.standing q))) (standing_labels Ds left (next_numbers D.width N) (k - S) q)
    ∙ pick_standing (ltb k S) (record { standing = N.standing; area = area_label D.width N.first k }) (closed_labels (widths_in Ds) (next_numbers D.width N) (k - S)) q

due_label : (D : Values) (first j q : ℕ) → label_of (due_in D first j (q / (2 * D.width)) (q % (2 * D.width))) ≡ area_label D.width first j q
unfolding due_in area_label
due_label D first j q = label_cond (ltb (q / (2 * D.width)) (min j 16)) (held _ _) blank

area_labels : (Ds : List Values) (N : Numbers) (k q : ℕ) → label_of (area_due Ds N k q) ≡ (closed_labels (widths_in Ds) N k).area q
unfolding area_due closed_labels
area_labels [] N k q = refl
area_labels (D ∷ Ds) N k q =
    let S = layer_lookups D.width in
    label_cond (ltb k S) (due_in D N.first k (q / (2 * D.width)) (q % (2 * D.width))) (area_due Ds (next_numbers D.width N) (k - S) q)
    ∙ ap₂ (λ (a b : Label). cond (ltb k S) a b) (due_label D N.first k q) (area_labels Ds (next_numbers D.width N) (k - S) q)
    ∙ pick_area (ltb k S) (record { standing = N.standing; area = area_label D.width N.first k }) (closed_labels (widths_in Ds) (next_numbers D.width N) (k - S)) q

pub rule_labels : RuleLabels
rule_labels Ds left g k h =
    let A : Agree (labels (widths_in Ds) k) (closed_labels (widths_in Ds) start_numbers k) = labels_are (widths_in Ds) g k h in (
      λ q b. standing_labels Ds left start_numbers k q ∙ ap under (sym (A.stands q b)),
      λ q b. area_labels Ds start_numbers k q ∙ sym (A.areas q b),
    )
