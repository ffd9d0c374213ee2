-- Laws, not definitions: the theorems of specs/Judgements.antt.
-- Assumes nothing.
use mathlib.Core.Bool.{Bool, false}
use mathlib.Core.List.{List}
use mathlib.Core.Path.{◌≡◌, ap, ap₂, ◌∙◌, subst}
use Prim.Native.Nat.{ℕ, ◌*◌, ◌≤◌}
use native.Mathlib.Omega.{arith}
use Rattle.bits.specs.Bytes.{Bytes}
use Rattle.matrices.specs.Matrices.{matrix_of}
use Rattle.blocks.specs.Theorems.{BlockInvertible}
use Rattle.blocks.proofs.laws.Proved.{unfit_not}
use Rattle.bundle.specs.Format.{encodings, byte_matrices, column_matrices, PairRight, pair_bad, length_bad, frame}
use Rattle.bundle.specs.Format.{byte_matrix, column_matrix, encoding_part, byte_matrix_part, column_matrix_part, input_matrix_part, output_matrix_part}
use Rattle.bundle.specs.Frames.{Framed}
use Rattle.bundle.specs.FreeBytes.{SameParts}
use Rattle.answers.specs.Answers.{refused_if, and_then}
use Rattle.answers.specs.Numbers.{cause_of}
use Rattle.answers.specs.Search.{FirstBad, first, refused_at}
use Rattle.answers.specs.declared.Refusal.{Refusal}
use Rattle.answers.specs.declared.Refusal.TheVariants.{KeyLength, BundleLength, Pair, Encoding, ByteMatrix, ColumnMatrix, InputMatrix}
use Rattle.answers.specs.declared.Refusal.TheVariants.{OutputMatrix, TableNumber, SetLength, BlockLength, Stop, Unfinished, RecordLength, CataloguePosition}
use Rattle.answers.proofs.laws.Tests.{clash, by_test}
use Rattle.answers.proofs.laws.Search.{by_refused_at, first_same, none_all, all_none, at_bad, bad_at}
use Rattle.bundle.proofs.laws.Frame.{pair_good, right_good, length_good, range_good, pairs_all, frame_accepted}
use Rattle.bundle.proofs.laws.FreeBytes.{free_bytes}
use Rattle.bundle.proofs.laws.Parts.{at_bytes, part_refused, part_behind, part_here, part_long}
use Rattle.judgement.specs.Judge.{no_permutation, no_inverse, mixing_bad, encoding_bad, byte_matrix_bad, column_matrix_bad}
use Rattle.judgement.specs.Judge.{judge_encodings, judge_byte_matrices, judge_column_matrices, judge_block_matrices, judge}
use Rattle.judgement.specs.Judgements.{GoodEncoding, GoodByteMatrix, GoodColumnMatrix, GoodInputMatrix, GoodOutputMatrix}
use Rattle.judgement.specs.Judgements.{GoodEncodings, GoodByteMatrices, GoodColumnMatrices, FirstUnfit, Sound, Why}
use Rattle.judgement.specs.Judgements.{AcceptedExactly, RefusedExactly, Parts, FreeBytes}
use Rattle.judgement.proofs.laws.Encodings.{good_permutation, permutation_good}
use Rattle.judgement.proofs.laws.Matrices.{good_invertible, invertible_good, good_mixing, mixing_good, not_unfit}
use Rattle.answers.specs.Answer.{Answer, Accepted, Refused}
use Rattle.std.specs.Prelude.{Some, None, Option}
use Rattle.std.proofs.lemmas.Bool.{true_from_ne_false}

-- The judgement from a cause on.
module _ (nr : ℕ) (l : List ℕ) where
  abbrev from_columns : Answer
  from_columns = and_then (judge_column_matrices nr l) (judge_block_matrices nr l)

  abbrev from_bytes : Answer
  from_bytes = and_then (judge_byte_matrices nr l) from_columns

  abbrev from_encodings : Answer
  from_encodings = and_then (judge_encodings nr l) from_bytes

-- Of the matrices of 8 w rows that the parts p 0, p 1, .. write, the first that is not block invertible is the first that is unfit.
module _ (count w : ℕ) (p : ℕ → List ℕ) (n : ℕ) where
  abbrev Bad : Type 0
  Bad = FirstBad count (λ i. BlockInvertible (2 * w) (matrix_of w (p i))) n

  abbrev Unfits : Type 0
  Unfits = FirstUnfit count (2 * w) (λ i. matrix_of w (p i)) n

  bad_unfit : Bytes (p n) → Bad → Unfits
  bad_unfit bytes bad = record { below = bad.below; before = bad.before; here = not_unfit w (p n) bytes bad.here }

  unfit_bad : Unfits → Bad
  unfit_bad unfit = record { below = unfit.below; before = unfit.before; here = unfit_not (2 * w) (matrix_of w (p n)) unfit.here }

module _ (nr : ℕ) (l : List ℕ) (bytes : Bytes l) where
  -- ---- the tests are exact
  list_to : (n : ℕ) → encoding_bad nr l n ≡ false → GoodEncoding nr l n
  list_to n = good_permutation (encoding_part nr l n) (at_bytes nr l 0 n bytes)

  list_from : (n : ℕ) → GoodEncoding nr l n → encoding_bad nr l n ≡ false
  list_from n = permutation_good (encoding_part nr l n)

  byte_to : (n : ℕ) → byte_matrix_bad nr l n ≡ false → GoodByteMatrix nr l n
  byte_to n = good_mixing 1 (byte_matrix_part nr l n) (at_bytes nr l 1 n bytes)

  byte_from : (n : ℕ) → GoodByteMatrix nr l n → byte_matrix_bad nr l n ≡ false
  byte_from n = mixing_good 1 (byte_matrix_part nr l n) (at_bytes nr l 1 n bytes)

  column_to : (n : ℕ) → column_matrix_bad nr l n ≡ false → GoodColumnMatrix nr l n
  column_to n = good_mixing 4 (column_matrix_part nr l n) (at_bytes nr l 2 n bytes)

  column_from : (n : ℕ) → GoodColumnMatrix nr l n → column_matrix_bad nr l n ≡ false
  column_from n = mixing_good 4 (column_matrix_part nr l n) (at_bytes nr l 2 n bytes)

  input_to : no_inverse 16 (input_matrix_part nr l) ≡ false → GoodInputMatrix nr l
  input_to = good_invertible 16 (input_matrix_part nr l) (at_bytes nr l 3 0 bytes)

  input_from : GoodInputMatrix nr l → no_inverse 16 (input_matrix_part nr l) ≡ false
  input_from = invertible_good 16 (input_matrix_part nr l) (at_bytes nr l 3 0 bytes)

  output_to : no_inverse 16 (output_matrix_part nr l) ≡ false → GoodOutputMatrix nr l
  output_to = good_invertible 16 (output_matrix_part nr l) (at_bytes nr l 4 0 bytes)

  output_from : GoodOutputMatrix nr l → no_inverse 16 (output_matrix_part nr l) ≡ false
  output_from = invertible_good 16 (output_matrix_part nr l) (at_bytes nr l 4 0 bytes)

  -- ---- what a search says of the good ones
  lists_all : first (encodings nr) (encoding_bad nr l) ≡ None → GoodEncodings nr l
  lists_all = none_all (encodings nr) (encoding_bad nr l) (GoodEncoding nr l) list_to list_from

  lists_none : GoodEncodings nr l → first (encodings nr) (encoding_bad nr l) ≡ None
  lists_none = all_none (encodings nr) (encoding_bad nr l) (GoodEncoding nr l) list_to list_from

  bytes_all : first (byte_matrices nr) (byte_matrix_bad nr l) ≡ None → GoodByteMatrices nr l
  bytes_all = none_all (byte_matrices nr) (byte_matrix_bad nr l) (GoodByteMatrix nr l) byte_to byte_from

  bytes_none : GoodByteMatrices nr l → first (byte_matrices nr) (byte_matrix_bad nr l) ≡ None
  bytes_none = all_none (byte_matrices nr) (byte_matrix_bad nr l) (GoodByteMatrix nr l) byte_to byte_from

  columns_all : first (column_matrices nr) (column_matrix_bad nr l) ≡ None → GoodColumnMatrices nr l
  columns_all = none_all (column_matrices nr) (column_matrix_bad nr l) (GoodColumnMatrix nr l) column_to column_from

  columns_none : GoodColumnMatrices nr l → first (column_matrices nr) (column_matrix_bad nr l) ≡ None
  columns_none = all_none (column_matrices nr) (column_matrix_bad nr l) (GoodColumnMatrix nr l) column_to column_from

  -- ---- the first that a search finds
  byte_found : (n : ℕ) → first (byte_matrices nr) (byte_matrix_bad nr l) ≡ Some n → FirstUnfit (byte_matrices nr) 2 (byte_matrix nr l) n
  byte_found n e =
      bad_unfit (byte_matrices nr) 1 (byte_matrix_part nr l) n (at_bytes nr l 1 n bytes)
      (at_bad (byte_matrices nr) (byte_matrix_bad nr l) (GoodByteMatrix nr l) byte_to byte_from n e)

  found_byte : (n : ℕ) → FirstUnfit (byte_matrices nr) 2 (byte_matrix nr l) n → first (byte_matrices nr) (byte_matrix_bad nr l) ≡ Some n
  found_byte n unfit =
      bad_at (byte_matrices nr) (byte_matrix_bad nr l) (GoodByteMatrix nr l) byte_to byte_from n (unfit_bad (byte_matrices nr) 1 (byte_matrix_part nr l) n unfit)

  column_found : (n : ℕ) → first (column_matrices nr) (column_matrix_bad nr l) ≡ Some n → FirstUnfit (column_matrices nr) 8 (column_matrix nr l) n
  column_found n e =
      bad_unfit (column_matrices nr) 4 (column_matrix_part nr l) n (at_bytes nr l 2 n bytes)
      (at_bad (column_matrices nr) (column_matrix_bad nr l) (GoodColumnMatrix nr l) column_to column_from n e)

  found_column : (n : ℕ) → FirstUnfit (column_matrices nr) 8 (column_matrix nr l) n → first (column_matrices nr) (column_matrix_bad nr l) ≡ Some n
  found_column n unfit =
      bad_at (column_matrices nr) (column_matrix_bad nr l) (GoodColumnMatrix nr l) column_to column_from n
      (unfit_bad (column_matrices nr) 4 (column_matrix_part nr l) n unfit)

  -- ---- what is given is right, from a cause on
  blocks_why : Framed nr l → GoodEncodings nr l → GoodByteMatrices nr l → GoodColumnMatrices nr l → Why nr l (judge_block_matrices nr l)
  unfolding judge_block_matrices
  blocks_why F A B C =
      by_test (λ j. Why nr l (and_then j (refused_if (no_inverse 16 (output_matrix_part nr l)) OutputMatrix))) (no_inverse 16 (input_matrix_part nr l)) InputMatrix
      (λ e. (F, A, B, C, λ g. clash (no_inverse 16 (input_matrix_part nr l)) e (input_from g)))
      (λ e₇. by_test (Why nr l) (no_inverse 16 (output_matrix_part nr l)) OutputMatrix
      (λ e. (F, A, B, C, input_to e₇, λ g. clash (no_inverse 16 (output_matrix_part nr l)) e (output_from g)))
      (λ e₈. record { framed = F; lists = A; bytes = B; columns = C; input = input_to e₇; output = output_to e₈ }))

  columns_why : Framed nr l → GoodEncodings nr l → GoodByteMatrices nr l → Why nr l (from_columns nr l)
  unfolding judge_column_matrices
  columns_why F A B =
      by_refused_at (λ j. Why nr l (and_then j (judge_block_matrices nr l))) (first (column_matrices nr) (column_matrix_bad nr l)) ColumnMatrix
      (λ n e. (F, A, B, column_found n e))
      (λ e. blocks_why F A B (columns_all e))

  bytes_why : Framed nr l → GoodEncodings nr l → Why nr l (from_bytes nr l)
  unfolding judge_byte_matrices
  bytes_why F A =
      by_refused_at (λ j. Why nr l (and_then j (from_columns nr l))) (first (byte_matrices nr) (byte_matrix_bad nr l)) ByteMatrix
      (λ n e. (F, A, byte_found n e))
      (λ e. columns_why F A (bytes_all e))

  encodings_why : Framed nr l → Why nr l (from_encodings nr l)
  unfolding judge_encodings
  encodings_why F =
      by_refused_at (λ j. Why nr l (and_then j (from_bytes nr l))) (first (encodings nr) (encoding_bad nr l)) Encoding
      (λ n e. (F, at_bad (encodings nr) (encoding_bad nr l) (GoodEncoding nr l) list_to list_from n e))
      (λ e. bytes_why F (lists_all e))

  -- Every judgement is given for its reason.
  why : Why nr l (judge nr l)
  unfolding judge frame
  why =
      by_test (λ j. Why nr l (and_then (and_then j (refused_at (first 5 (pair_bad nr l)) Pair)) (from_encodings nr l))) (length_bad nr l) BundleLength
      (λ e R. clash (length_bad nr l) e (range_good nr l R))
      (λ e₂. by_refused_at (λ j. Why nr l (and_then j (from_encodings nr l))) (first 5 (pair_bad nr l)) Pair
      (λ n e. (length_good nr l e₂, at_bad 5 (pair_bad nr l) (PairRight nr l) (pair_good nr l) (right_good nr l) n e))
      (λ e₃. encodings_why (record { range = length_good nr l e₂; pairs = pairs_all nr l e₃ })))

  -- ---- and it is the only one that is: what is good is passed
  past_frame : Framed nr l → judge nr l ≡ from_encodings nr l
  unfolding judge
  past_frame F = rw (frame_accepted nr l F)

  past_encodings : Framed nr l → GoodEncodings nr l → judge nr l ≡ from_bytes nr l
  unfolding judge_encodings
  past_encodings F A = past_frame F ∙ rw (lists_none A)

  past_bytes : Framed nr l → GoodEncodings nr l → GoodByteMatrices nr l → judge nr l ≡ from_columns nr l
  unfolding judge_byte_matrices
  past_bytes F A B = past_encodings F A ∙ rw (bytes_none B)

  past_columns : Framed nr l → GoodEncodings nr l → GoodByteMatrices nr l → GoodColumnMatrices nr l → judge nr l ≡ judge_block_matrices nr l
  unfolding judge_column_matrices
  past_columns F A B C = past_bytes F A B ∙ rw (columns_none C)

  -- No other judgement has one.
  pub why_judge : (j : Answer) → Why nr l j → judge nr l ≡ j
  unfolding judge frame judge_encodings judge_byte_matrices judge_column_matrices judge_block_matrices
  why_judge Accepted S =
      past_columns S.framed S.lists S.bytes S.columns ∙ rw (input_from S.input, output_from S.output)
  why_judge (Refused BundleLength) W = rw (true_from_ne_false (length_bad nr l) (λ e. W (length_good nr l e)))
  why_judge (Refused (Pair i)) W =
      rw (range_good nr l W.0, bad_at 5 (pair_bad nr l) (PairRight nr l) (pair_good nr l) (right_good nr l) i W.1)
  why_judge (Refused (Encoding n)) W =
      past_frame W.0 ∙ rw (bad_at (encodings nr) (encoding_bad nr l) (GoodEncoding nr l) list_to list_from n W.1)
  why_judge (Refused (ByteMatrix n)) W =
      past_encodings W.0 W.1 ∙ rw (found_byte n W.2)
  why_judge (Refused (ColumnMatrix n)) W =
      past_bytes W.0 W.1 W.2 ∙ rw (found_column n W.3)
  why_judge (Refused InputMatrix) W =
      past_columns W.0 W.1 W.2 W.3 ∙ rw (true_from_ne_false (no_inverse 16 (input_matrix_part nr l)) (λ e. W.4 (input_to e)))
  why_judge (Refused OutputMatrix) W =
      past_columns W.0 W.1 W.2 W.3
      ∙ rw (input_from W.4, true_from_ne_false (no_inverse 16 (output_matrix_part nr l)) (λ e. W.5 (output_to e)))
  why_judge (Refused KeyLength) W = absurd W
  why_judge (Refused TableNumber) W = absurd W
  why_judge (Refused SetLength) W = absurd W
  why_judge (Refused BlockLength) W = absurd W
  why_judge (Refused Stop) W = absurd W
  why_judge (Refused Unfinished) W = absurd W
  why_judge (Refused RecordLength) W = absurd W
  why_judge (Refused CataloguePosition) W = absurd W

pub accepted_sound : (nr : ℕ) (l : List ℕ) → Bytes l → judge nr l ≡ Accepted → Sound nr l
accepted_sound nr l bytes e = subst (Why nr l) e (why nr l bytes)

pub accepted_exactly : AcceptedExactly
accepted_exactly nr l bytes = (accepted_sound nr l bytes, why_judge nr l bytes Accepted)

pub refused_exactly : RefusedExactly
refused_exactly nr l bytes r = (λ e. subst (Why nr l) e (why nr l bytes), why_judge nr l bytes (Refused r))

-- ---- the frame refuses just where the judgement has cause 2 or 3
abbrev Late : Answer → Type 0
Late Accepted = 4 ≤ 4
Late (Refused r) = 4 ≤ cause_of r

late_then : (a b : Answer) → Late a → Late b → Late (and_then a b)
late_then Accepted b A B = B
late_then (Refused r) b A B = A

late : (nr : ℕ) (l : List ℕ) → Late (from_encodings nr l)
unfolding judge_encodings judge_byte_matrices judge_column_matrices judge_block_matrices
late nr l =
    let input = refused_if (no_inverse 16 (input_matrix_part nr l)) InputMatrix in
    let output = refused_if (no_inverse 16 (output_matrix_part nr l)) OutputMatrix in
    late_then (judge_encodings nr l) (from_bytes nr l)
    (by_refused_at Late (first (encodings nr) (encoding_bad nr l)) Encoding (λ n e. omega arith) (λ e. omega arith))
    (late_then (judge_byte_matrices nr l) (from_columns nr l)
    (by_refused_at Late (first (byte_matrices nr) (byte_matrix_bad nr l)) ByteMatrix (λ n e. omega arith) (λ e. omega arith))
    (late_then (judge_column_matrices nr l) (judge_block_matrices nr l)
    (by_refused_at Late (first (column_matrices nr) (column_matrix_bad nr l)) ColumnMatrix (λ n e. omega arith) (λ e. omega arith))
    (late_then input output
    (by_test Late (no_inverse 16 (input_matrix_part nr l)) InputMatrix (λ e. omega arith) (λ e. omega arith))
    (by_test Late (no_inverse 16 (output_matrix_part nr l)) OutputMatrix (λ e. omega arith) (λ e. omega arith)))))

early : (r : Refusal) (j k : Answer) → Late k → and_then j k ≡ Refused r → cause_of r ≤ 3 → j ≡ Refused r
early r Accepted k L e c = let q : Late (Refused r) = subst Late e L in absurd (omega arith)
early r (Refused x) k L e c = e

pub judged_frame : (nr : ℕ) (l : List ℕ) (r : Refusal) → judge nr l ≡ Refused r → cause_of r ≤ 3 → frame nr l ≡ Refused r
unfolding judge
judged_frame nr l r e c = early r (frame nr l) (from_encodings nr l) (late nr l) e c

-- ---- parts
pub parts : Parts
parts nr l s n h = record {
  here = λ F b. part_here nr l s n h (frame_accepted nr l F) b;
  long = λ F b. part_long nr l s n h (frame_accepted nr l F) b;
  behind = part_behind nr l s n h;
  refused = λ r e c. part_refused nr l s n r (judged_frame nr l r e c);
}

-- ---- free bytes: the judgement is of the frame and of the parts
found_same : (count : ℕ) (p q : ℕ → Bool) (r : ℕ → Refusal) → ((n : ℕ) → p n ≡ q n) → refused_at (first count p) r ≡ refused_at (first count q) r
found_same count p q r e = ap (λ (f : Option ℕ). refused_at f r) (first_same count p q (λ n h. e n))

module _ (nr : ℕ) (l l' : List ℕ) (S : SameParts nr l l') where
  encodings_same : judge_encodings nr l ≡ judge_encodings nr l'
  unfolding judge_encodings
  encodings_same = found_same (encodings nr) _ _ Encoding (λ n. ap no_permutation (S.parts 0 n (omega arith)))

  bytes_same : judge_byte_matrices nr l ≡ judge_byte_matrices nr l'
  unfolding judge_byte_matrices
  bytes_same = found_same (byte_matrices nr) _ _ ByteMatrix (λ n. ap (mixing_bad 1) (S.parts 1 n (omega arith)))

  columns_same : judge_column_matrices nr l ≡ judge_column_matrices nr l'
  unfolding judge_column_matrices
  columns_same = found_same (column_matrices nr) _ _ ColumnMatrix (λ n. ap (mixing_bad 4) (S.parts 2 n (omega arith)))

  blocks_same : judge_block_matrices nr l ≡ judge_block_matrices nr l'
  unfolding judge_block_matrices
  blocks_same =
      ap₂ (λ (p q : List ℕ). and_then (refused_if (no_inverse 16 p) InputMatrix) (refused_if (no_inverse 16 q) OutputMatrix))
      (S.parts 3 0 (omega arith)) (S.parts 4 0 (omega arith))

  judge_same : judge nr l ≡ judge nr l'
  unfolding judge
  judge_same = ap₂ and_then S.frames (ap₂ and_then encodings_same (ap₂ and_then bytes_same (ap₂ and_then columns_same blocks_same)))

pub free_judged : FreeBytes
free_judged nr l l' agree = judge_same nr l l' (free_bytes nr l l' agree)
