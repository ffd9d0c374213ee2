-- Laws, not definitions: causes 2 and 3, and what the sections are where neither applies.
-- Assumes nothing.
use mathlib.Core.Bool.{Bool, true, false, cond, not, ◌||◌}
use Rattle.rounds.specs.Rounds.{known}
use mathlib.Core.List.{List, []}
use mathlib.Core.Path.{◌≡◌, refl, ap, ap₂, ◌∙◌}
use Prim.Native.Nat.{ℕ, zero, suc, ◌+◌, ◌≤◌, ◌<◌}
use native.Mathlib.Omega.{arith}
use lib.Dec.{eqb, ltb}
use lib.ListN.{length, take, drop, length-take, length-drop}
use borrow.Author.Tests.{not-false, eqb-true, ltb-false, eq-eqb, le-ltb}
use Rattle.bundle.specs.Format.{encodings, byte_matrices, column_matrices, part_count, part_size, section_length, shortest, longest}
use Rattle.bundle.specs.Format.{offset, stated, end_before, PairRight, pair_bad, length_bad, frame, section_of}
use Rattle.bundle.specs.Frames.{Sizes, LengthRight, Framed, Apart}
use Rattle.answers.specs.Search.{first, refused_at}
use Rattle.answers.specs.Answers.{refused_if, and_then}
use Rattle.answers.specs.declared.Refusal.{Refusal}
use Rattle.answers.specs.declared.Refusal.TheVariants.{BundleLength, Pair}
use Rattle.answers.proofs.laws.Tests.{both, passed, or_left, or_right, neither}
use Rattle.answers.proofs.laws.Search.{none_all, all_none, none_found}
use Rattle.answers.specs.Answer.{Accepted, Refused}
use Rattle.std.specs.Prelude.{None, Option}

pub sizes : Sizes
unfolding known encodings byte_matrices column_matrices part_count part_size section_length shortest longest
sizes = record {
  lists = refl;
  bytes = refl;
  columns = refl;
  section_0 = refl;
  section_1 = refl;
  section_2 = refl;
  section_3 = refl;
  section_4 = refl;
  low = refl;
  high = refl;
  low_12 = refl;
  low_14 = refl;
  high_12 = refl;
  high_14 = refl;
  most_lists = refl;
}

-- No bundle is longer.
pub longest_small : (nr : ℕ) → longest nr ≤ 131072
unfolding longest
longest_small nr = go (known nr) (eqb nr 10)
  where
    go : (a b : Bool) → cond a (cond b 65536 131072) 0 ≤ 131072
    go true true = omega arith
    go true false = omega arith
    go false b = omega arith

-- ---- the tests are exact
module _ (nr : ℕ) (l : List ℕ) (i : ℕ) where
  pub pair_good : pair_bad nr l i ≡ false → PairRight nr l i
  unfolding pair_bad
  pair_good e =
      let a = not (eqb (stated l i) (section_length nr i)) in
      let b = ltb (offset l i) (end_before l i) in
      let c = ltb (length l) (offset l i + stated l i) in
      record {
        long = eqb-true (stated l i) (section_length nr i) (not-false (eqb (stated l i) (section_length nr i)) (or_left a (b || c) e));
        behind = ltb-false (offset l i) (end_before l i) (or_left b c (or_right a (b || c) e));
        within = ltb-false (length l) (offset l i + stated l i) (or_right b c (or_right a (b || c) e));
      }

  pub right_good : PairRight nr l i → pair_bad nr l i ≡ false
  unfolding pair_bad
  right_good R =
      let b = ltb (offset l i) (end_before l i) in
      let c = ltb (length l) (offset l i + stated l i) in
      neither (not (eqb (stated l i) (section_length nr i))) (b || c) (ap not (eq-eqb (stated l i) (section_length nr i) R.long))
      (neither b c (le-ltb (offset l i) (end_before l i) R.behind) (le-ltb (length l) (offset l i + stated l i) R.within))

module _ (nr : ℕ) (l : List ℕ) where
  pub length_good : length_bad nr l ≡ false → LengthRight nr l
  unfolding length_bad
  length_good e =
      let a = ltb (length l) (shortest nr) in
      let b = ltb (longest nr) (length l) in
      record { low = ltb-false (length l) (shortest nr) (or_left a b e); high = ltb-false (longest nr) (length l) (or_right a b e) }

  pub range_good : LengthRight nr l → length_bad nr l ≡ false
  unfolding length_bad
  range_good R =
      neither (ltb (length l) (shortest nr)) (ltb (longest nr) (length l)) (le-ltb (length l) (shortest nr) R.low) (le-ltb (longest nr) (length l) R.high)

  pub pairs_all : first 5 (pair_bad nr l) ≡ None → (i : ℕ) → i < 5 → PairRight nr l i
  pairs_all = none_all 5 (pair_bad nr l) (PairRight nr l) (pair_good nr l) (right_good nr l)

  pub pairs_none : ((i : ℕ) → i < 5 → PairRight nr l i) → first 5 (pair_bad nr l) ≡ None
  pairs_none = all_none 5 (pair_bad nr l) (PairRight nr l) (pair_good nr l) (right_good nr l)

  -- ---- the frame
  pub framed : frame nr l ≡ Accepted → Framed nr l
  unfolding frame
  framed e =
      let accepted = both (refused_if (length_bad nr l) BundleLength) (refused_at (first 5 (pair_bad nr l)) Pair) e in
      record {
        range = length_good (passed (length_bad nr l) BundleLength accepted.first);
        pairs = pairs_all (none_found (first 5 (pair_bad nr l)) Pair accepted.second);
      }

  pub frame_accepted : Framed nr l → frame nr l ≡ Accepted
  unfolding frame
  frame_accepted F =
      ap₂ (λ (b : Bool) (f : Option ℕ). and_then (refused_if b BundleLength) (refused_at f Pair)) (range_good F.range) (pairs_none F.pairs)

  -- ---- sections
  pub section_is : frame nr l ≡ Accepted → (s : ℕ) → section_of nr l s ≡ take (section_length nr s) (drop (offset l s) l)
  unfolding section_of
  section_is e s = rw e

  pub section_none : (r : Refusal) → frame nr l ≡ Refused r → (s : ℕ) → section_of nr l s ≡ []
  unfolding section_of
  section_none r e s = rw e

  pub section_fits : frame nr l ≡ Accepted → (s : ℕ) → s < 5 → offset l s + section_length nr s ≤ length l
  section_fits e s h = let R = (framed e).pairs s h in omega (arith, R.long, R.within)

  pub section_length_lem : frame nr l ≡ Accepted → (s : ℕ) → s < 5 → length (section_of nr l s) ≡ section_length nr s
  section_length_lem e s h = ap length (section_is e s) ∙ simp (length-take, length-drop) (omega (arith, section_fits e s h))

-- Each section starts behind the pairs and behind all sections before it.
pub apart : Apart
unfolding end_before
apart nr l F zero h = ((F.pairs zero h).behind, λ j k. absurd (omega arith))
apart nr l F (suc i) h =
    let P = F.pairs i (omega arith) in
    let Q = (F.pairs (suc i) h).behind in
    let E : offset l i + section_length nr i ≤ offset l (suc i) = omega (arith, P.long, Q) in
    let A = apart nr l F i (omega arith) in (
      omega (arith, A.0, E),
      λ j k. elim (native.Mathlib.Decide.ℕ_discrete j i) [
        | yes e ↦ rw e E
        | no e ↦ omega (arith, A.1 j (omega arith), E)
      ],
    )
