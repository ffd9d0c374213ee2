-- Laws, not definitions: the definitions as the code meets them, by the test of a branch.
-- Assumes nothing.
use mathlib.Core.Bool.{Bool, true, false, ◌||◌}
use lib.Dec.{ltb}
use mathlib.Core.List.{List, []}
use mathlib.Core.Path.{◌≡◌, refl, sym, ap, ap₂, ◌∙◌}
use Prim.Native.Nat.{ℕ, zero, suc, ◌+◌, ◌-◌, ◌*◌, ◌≤◌, ◌<◌}
use native.Mathlib.Decide.{ℕ_discrete, dec_lt}
use native.Mathlib.Nat.{zero-mul}
use native.Mathlib.Omega.{arith}
use lib.ListN.{length, take, drop}
use borrow.Author.Tests.{eq-eqb, ne_eqb, lt-ltb, le-ltb}
use Rattle.bits.proofs.laws.Lists.{cut_is}
use Rattle.bits.proofs.laws.Multiples.{product_le}
use Rattle.rounds.specs.Rounds.{known, Rounds}
use Rattle.rounds.proofs.laws.Known.{known_rounds, rounds_known}
use Rattle.bundle.specs.Format.{encodings, most_encodings, byte_matrices, column_matrices, part_count, part_size}
use Rattle.bundle.specs.Format.{section_length, shortest, longest, offset, stated, end_before, pair_bad, length_bad, frame, section_of, part_at}
use Rattle.answers.specs.Search.{first, refused_at}
use Rattle.answers.specs.Answers.{refused_if, and_then, if_accepted}
use Rattle.answers.specs.declared.Refusal.{Refusal}
use Rattle.answers.specs.declared.Refusal.TheVariants.{BundleLength, Pair}
use Rattle.answers.proofs.laws.Tests.{differ}
use Rattle.answers.proofs.laws.Search.{found_refuses, found_passes}
use Rattle.bundle.proofs.laws.Frame.{framed, right_good, range_good, section_is, section_none, section_fits}
use Rattle.bundle.proofs.laws.Parts.{part_long}
use Rattle.answers.specs.Answer.{Answer, Accepted, Refused}
use Rattle.std.specs.Prelude.{Some, None, Option}

-- ---- a section from 3 on holds one block matrix, and behind the fifth there is none
block_size : (s : ℕ) → 3 ≤ s → part_size s ≡ 2048
unfolding part_size
block_size s h = let e : suc (suc (suc (s - 3))) ≡ s = omega arith in ap part_size (sym e)

block_count : (nr s : ℕ) → 3 ≤ s → s < 5 → part_count nr s ≡ 1
unfolding part_count
block_count nr s h k = elim (ℕ_discrete s 3) [
  | yes e ↦ ap (part_count nr) e
  | no e ↦ let f : s ≡ 4 = omega arith in ap (part_count nr) f
]

no_parts : (nr s : ℕ) → 5 ≤ s → part_count nr s ≡ 0
unfolding part_count
no_parts nr s h = let e : suc (suc (suc (suc (suc (s - 5))))) ≡ s = omega arith in ap (part_count nr) (sym e)

-- ---- sizes, as the code counts them
module _ (nr : ℕ) (R : Rounds nr) where
  pub high_ten : nr ≡ 10 → 65536 ≡ longest nr
  unfolding longest
  high_ten e = simp (rounds_known nr R, eq-eqb nr 10 e)

  pub high_other : (nr ≡ 10 → ⊥) → 131072 ≡ longest nr
  unfolding longest
  high_other n = simp (rounds_known nr R, ne_eqb nr 10 n)

-- The parts of section s, by the arms of the `match`.
module _ (nr s : ℕ) where
  pub count_lists : 0 ≡ s → Rounds nr → (32 + 2 * 992 + (nr - 1) * 448 ≡ part_count nr s) × (32 + 2 * 992 + (nr - 1) * 448 ≤ most_encodings)
  unfolding part_count encodings
  count_lists e R = (ap (part_count nr) e, omega (arith, R))

  pub count_bytes : 1 ≡ s → Rounds nr → (16 * nr ≡ part_count nr s) × (16 * nr ≤ most_encodings)
  unfolding part_count byte_matrices
  count_bytes e R = (ap (part_count nr) e, omega (arith, R))

  pub count_columns : 2 ≡ s → Rounds nr → (4 * (nr - 1) ≡ part_count nr s) × (4 * (nr - 1) ≤ most_encodings)
  unfolding part_count column_matrices
  count_columns e R = (ap (part_count nr) e, omega (arith, R))

  pub count_block : 3 ≤ s → s < 5 → (1 ≡ part_count nr s) × (1 ≤ most_encodings)
  count_block h k = (sym (block_count nr s h k), omega arith)

  pub count_none : 5 ≤ s → (0 ≡ part_count nr s) × (0 ≤ most_encodings)
  count_none h = (sym (no_parts nr s h), omega arith)

module _ (s : ℕ) where
  pub size_encoding : 0 ≡ s → (8 ≡ part_size s) × (1 ≤ 8) × (8 ≤ 2048)
  unfolding part_size
  size_encoding e = (ap part_size e, omega arith, omega arith)

  pub size_byte : 1 ≡ s → (8 ≡ part_size s) × (1 ≤ 8) × (8 ≤ 2048)
  unfolding part_size
  size_byte e = (ap part_size e, omega arith, omega arith)

  pub size_column : 2 ≡ s → (128 ≡ part_size s) × (1 ≤ 128) × (128 ≤ 2048)
  unfolding part_size
  size_column e = (ap part_size e, omega arith, omega arith)

  pub size_block : 3 ≤ s → (2048 ≡ part_size s) × (1 ≤ 2048) × (2048 ≤ 2048)
  size_block h = (sym (block_size s h), omega arith, omega arith)

  -- A section's length, of the count and the size that the code has.
  pub section_counted : (nr : ℕ) {count size : ℕ} → (count ≡ part_count nr s) × (count ≤ most_encodings)
      → (size ≡ part_size s) × (1 ≤ size) × (size ≤ 2048) → (count * size ≡ section_length nr s) × (count * size ≤ most_encodings * 2048)
  unfolding section_length
  section_counted nr c z = (ap₂ ◌*◌ c.0 z.0, product_le _ _ most_encodings 2048 c.1 z.2)

-- ---- pairs
pub before_first : (l : List ℕ) (i : ℕ) → i ≡ 0 → 40 ≡ end_before l i
unfolding end_before
before_first l i e = ap (end_before l) (sym e)

-- o and n are offset and length of the pair before.
pub before_next : (l : List ℕ) (i : ℕ) {o n : ℕ} → (i ≡ 0 → ⊥) → o ≡ offset l (i - 1) → n ≡ stated l (i - 1) → o + n ≡ end_before l i
unfolding end_before
before_next l zero e p q = absurd (e refl)
before_next l (suc i) e p q = let k : suc i - 1 ≡ i = omega arith in ap₂ ◌+◌ p q ∙ rw k

-- Pair i has the offset o and the length n; its section has `want` bytes and has to start behind `start`.
module _ (nr : ℕ) (l : List ℕ) (i : ℕ) {n want : ℕ} (en : n ≡ stated l i) (ew : want ≡ section_length nr i) where
  pub pair_length : (n ≡ want → ⊥) → true ≡ pair_bad nr l i
  unfolding pair_bad
  pair_length a = simp (ne_eqb (stated l i) (section_length nr i) (λ e. a (en ∙ e ∙ sym ew)))

  module _ (a : n ≡ want) {o start : ℕ} (eo : o ≡ offset l i) (es : start ≡ end_before l i) where
    pub pair_order : o < start → true ≡ pair_bad nr l i
    unfolding pair_bad
    pair_order b = simp (eq-eqb (stated l i) (section_length nr i) (sym en ∙ a ∙ ew), lt-ltb (offset l i) (end_before l i) (omega arith))

    pub pair_end : start ≤ o → length l < o + n → true ≡ pair_bad nr l i
    unfolding pair_bad
    pair_end b c =
        simp (
          eq-eqb (stated l i) (section_length nr i) (sym en ∙ a ∙ ew),
          le-ltb (offset l i) (end_before l i) (omega arith),
          lt-ltb (length l) (offset l i + stated l i) (omega arith),
        )

    pub pair_right : start ≤ o → o + n ≤ length l → false ≡ pair_bad nr l i
    pair_right b c =
        sym (right_good nr l i (record { long = sym en ∙ a ∙ ew; behind = omega arith; within = omega arith }))

-- ---- the frame
-- A bundle that is not too short has its pairs.
pub low_forty : (nr : ℕ) {low : ℕ} → low ≡ shortest nr → 40 ≤ low
unfolding shortest
low_forty nr e = omega arith

-- Of another number of rounds than 10, 12 and 14 the longest bundle has no byte, and the shortest has some: so every length is bad.
pub frame_unknown : (nr : ℕ) (l : List ℕ) {k : Bool} → k ≡ known nr → k ≡ false → Refused BundleLength ≡ frame nr l
unfolding frame length_bad
frame_unknown nr l e f = go (dec_lt (length l) (shortest nr))
  where
    none : longest nr ≡ 0
    none = unfold longest in simp (sym e ∙ f)

    some : 0 < shortest nr
    some = unfold shortest in omega arith

    go : Dec (length l < shortest nr) → Refused BundleLength
        ≡ and_then (refused_if (ltb (length l) (shortest nr) || ltb (longest nr) (length l)) BundleLength) (refused_at (first 5 (pair_bad nr l)) Pair)
    go (yes h) = simp (lt-ltb (length l) (shortest nr) h)
    go (no h) = simp (le-ltb (length l) (shortest nr) (omega arith), lt-ltb (longest nr) (length l) (omega (arith, none, some)))

-- So where neither cause 2 nor cause 3 applies, the number of rounds is one of the three.
pub framed_rounds : (nr : ℕ) (l : List ℕ) → frame nr l ≡ Accepted → Rounds nr
framed_rounds nr l e = go (known nr) refl
  where
    go : (k : Bool) → known nr ≡ k → Rounds nr
    go true f = known_rounds nr f
    go false f = absurd (differ (sym e ∙ sym (frame_unknown nr l refl f)))

-- The shortest and the longest bundle, as the code has them, have low and high bytes.
module _ (nr : ℕ) (l : List ℕ) {low : ℕ} (eo : shortest nr ≡ low) where
  pub frame_short : length l < low → Refused BundleLength ≡ frame nr l
  unfolding frame length_bad
  frame_short a = simp (lt-ltb (length l) (shortest nr) (omega arith))

  module _ {high : ℕ} (ei : longest nr ≡ high) (a : low ≤ length l) where
    pub frame_long : high < length l → Refused BundleLength ≡ frame nr l
    unfolding frame length_bad
    frame_long b = simp (le-ltb (length l) (shortest nr) (omega arith), lt-ltb (longest nr) (length l) (omega arith))

    -- The length is in range, and the search for a bad pair found f.
    module _ (b : length l ≤ high) {f : Option ℕ} (e : f ≡ first 5 (pair_bad nr l)) where
      found : refused_at f Pair ≡ frame nr l
      unfolding frame
      found =
          let range = range_good nr l (record { low = omega arith; high = omega arith }) in
          rw (range, ← e)

      pub frame_pair : {i : ℕ} → f ≡ Some i → Refused (Pair i) ≡ frame nr l
      frame_pair q = found_refuses f Pair _ q ∙ found

      pub frame_right : f ≡ None → Accepted ≡ frame nr l
      frame_right q = found_passes f Pair q ∙ found

-- ---- sections and parts; j is the judgement of the frame
-- A bundle with neither cause 2 nor cause 3 has its five pairs.
pub pairs_there : (nr : ℕ) (l : List ℕ) {j : Answer} → j ≡ frame nr l → j ≡ Accepted → 40 ≤ length l
unfolding shortest
pairs_there nr l f t = omega (arith, (framed nr l (sym f ∙ t)).range.low)

none_either : (j : Answer) {t : List ℕ} → t ≡ [] → [] ≡ if_accepted j t []
none_either Accepted e = sym e
none_either (Refused r) e = refl

pub section_behind : (nr : ℕ) (l : List ℕ) (s : ℕ) → 5 ≤ s → [] ≡ section_of nr l s
unfolding section_of section_length
section_behind nr l s h =
    none_either (frame nr l)
    (ap (λ (n : ℕ). take n (drop (offset l s) l)) (ap (λ (n : ℕ). n * part_size s) (no_parts nr s h) ∙ zero-mul (part_size s)))

module _ (nr : ℕ) (l : List ℕ) (s : ℕ) {j : Answer} (f : j ≡ frame nr l) where
  pub section_empty : {r : Refusal} → j ≡ Refused r → [] ≡ section_of nr l s
  section_empty t = sym (section_none nr l _ (sym f ∙ t) s)

  module _ (t : j ≡ Accepted) {a n : ℕ} (p : a ≡ offset l s) (q : n ≡ section_length nr s) where
    pub section_cut : take ((a + n) - a) (drop a l) ≡ section_of nr l s
    section_cut = cut_is l a n ∙ rw (p, q) (sym (section_is nr l (sym f ∙ t) s))

    pub section_end : s < 5 → a + n ≤ length l
    section_end h = rw (p, q) (section_fits nr l (sym f ∙ t) s h)

-- A block matrix has 2,048 bytes.
pub block_room : (nr : ℕ) (l : List ℕ) (s : ℕ) → frame nr l ≡ Accepted → 3 ≤ s → s < 5 → (p : List ℕ) → p ≡ part_at nr l s 0 → 2048 ≤ length p
block_room nr l s f h k p e =
    omega (arith, ap length e, part_long nr l s 0 k f (omega (arith, block_count nr s h k)), block_size s h)
