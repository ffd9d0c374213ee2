-- Laws, not definitions: the theorems of specs/Cases.antt.
-- Assumes nothing.
use mathlib.Core.Bool.{Bool, true, false, cond}
use mathlib.Core.List.{List}
use mathlib.Core.Logic.{◌≢◌, inl, inr}
use mathlib.Core.Path.{◌≡◌, refl, sym, ap, ◌∙◌, subst}
use Prim.Native.Nat.{ℕ, ◌*◌, ◌≤◌, ◌<◌}
use native.Mathlib.Omega.{arith}
use borrow.Author.Tests.{eq-eqb, ne_eqb}
use lib.Dec.{eqb}
use Rattle.answers.specs.Answers.{and_then}
use Rattle.answers.specs.Numbers.{cause_of}
use Rattle.answers.specs.Search.{All, first, refused_at}
use Rattle.answers.specs.declared.Refusal.TheVariants.{BundleLength, Pair, Encoding, ByteMatrix, ColumnMatrix}
use Rattle.answers.proofs.laws.Search.{by_refused_at}
use Rattle.answers.proofs.laws.Tests.{by_test}
use Rattle.bits.specs.Encodings.{Permutation, plain_encoding}
use Rattle.bits.specs.Lists.{at}
use Rattle.bits.proofs.laws.Encodings.{plain_permutation}
use Rattle.matrices.specs.Matrices.{identity, Square, Invertible}
use Rattle.matrices.proofs.laws.Matrices.{identity_invertible}
use Rattle.matrices.proofs.laws.Stored.{matrix_of_fits}
use Rattle.catalogue.specs.Catalogue.{side}
use Rattle.blocks.specs.Theorems.{EachBlockInvertible, BlockInvertible, Unfit}
use Rattle.bundle.specs.Built.{Built, plain_but, plain_bundle}
use Rattle.bundle.specs.Format.{encodings, byte_matrices, column_matrices, length_bad, pair_bad, frame, encoding_of, byte_matrix, column_matrix, byte_matrix_part}
use Rattle.bundle.specs.Frames.{Framed}
use Rattle.bundle.proofs.laws.Built.{but_built, plain_built, plain_frame}
use Rattle.bundle.proofs.laws.Frame.{framed}
use Rattle.bundle.proofs.laws.Parts.{at_bytes}
use Rattle.judgement.specs.Cases.{RefusedWith, NoneBelow4, List0, Byte159, Faulty159, PlainJudged, PlainRefused, last_bad, all_but, LastBlock}
use Rattle.judgement.specs.Judge.{judge}
use Rattle.judgement.specs.Judgements.{GoodEncodings, GoodByteMatrix, GoodColumnMatrix, GoodByteMatrices, FirstUnfit}
use Rattle.judgement.specs.Witness.{mixing_matrix}
use Rattle.judgement.proofs.laws.Judgements.{why_judge}
use Rattle.judgement.proofs.laws.Matrices.{equal_rows}
use Rattle.judgement.proofs.laws.Mixing.{mixing_square, mixing_matrices, identity_block, last_bad_square, last_bad_block, last_bad_byte, last_bad_column}
use Rattle.judgement.proofs.laws.Mixing.{twins, twins_square, twins_blocks, twins_equal}
use Rattle.judgement.proofs.laws.Witness.{ten_fits}
use Rattle.answers.specs.Answer.{Answer, Accepted, Refused}

-- ---- where no cause below 4 is given, the frame is right
abbrev Low : Answer → Type 0
Low Accepted = 0 < 4
Low (Refused r) = cause_of r < 4

low : (nr : ℕ) (l : List ℕ) → Low (frame nr l)
unfolding frame
low nr l =
    by_test (λ j. Low (and_then j (refused_at (first 5 (pair_bad nr l)) Pair))) (length_bad nr l) BundleLength (λ e. omega arith)
    (λ e. by_refused_at Low (first 5 (pair_bad nr l)) Pair (λ n e. omega arith) (λ e. omega arith))

none_below : (l : List ℕ) → NoneBelow4 l → (j : Answer) → frame 10 l ≡ j → Framed 10 l
unfolding judge
none_below l high Accepted e = framed 10 l e
none_below l high (Refused r) e =
    let a : 4 ≤ cause_of r = high r (rw e) in
    let b : cause_of r < 4 = subst Low e (low 10 l) in
    absurd (omega arith)

pub list_0 : List0
unfolding encodings
list_0 l bytes high a b = record {
  refusal = Encoding 0;
  judged = why_judge 10 l bytes (Refused (Encoding 0)) (
    none_below l high (frame 10 l) refl,
    record {
      below = omega arith;
      before = λ i h. absurd (omega arith);
      here = λ p. let z : ◌≡◌ {A = ℕ} 0 1 = p.apart 0 1 (omega arith) (omega arith) (a ∙ sym b) in omega arith;
    },
  );
  number = refl;
  with = refl;
}

pub byte_159 : Byte159
unfolding byte_matrices
byte_159 l bytes only_fault a b ha hb ne e = record {
  refusal = ByteMatrix 159;
  judged = why_judge 10 l bytes (Refused (ByteMatrix 159)) (
    only_fault.framed,
    only_fault.lists,
    record {
      below = omega arith;
      before = λ i h. only_fault.others i (omega arith) (omega arith);
      here = inl (equal_rows 8 (byte_matrix 10 l 159) (matrix_of_fits 1 (byte_matrix_part 10 l 159) (at_bytes 10 l 1 159 bytes)) a b ha hb ne e);
    },
  );
  number = refl;
  with = refl;
}

-- ---- the plain bundle
plain_lists : (nr : ℕ) (l : List ℕ) → ((n : ℕ) → n < encodings nr → encoding_of nr l n ≡ plain_encoding) → GoodEncodings nr l
plain_lists nr l plain n h = subst Permutation (sym (plain n h)) plain_permutation

pub plain_judged : PlainJudged
unfolding byte_matrices
plain_judged nr l some bytes whole plain =
    let lists = plain_lists nr l plain.lists in
    let first : FirstUnfit (byte_matrices nr) 2 (byte_matrix nr l) 0 = record {
      below = omega arith;
      before = λ i h. absurd (omega arith);
      here = subst (Unfit 2) (sym (plain.bytes 0 (omega arith))) (inr identity_block);
    } in
    (lists, why_judge nr l bytes (Refused (ByteMatrix 0)) (whole, lists, first))

pub plain_refused : PlainRefused
plain_refused =
    let built = plain_built 10 ten_fits in
    let whole = framed 10 (plain_bundle 10) (plain_frame 10 ten_fits) in
    record { refusal = ByteMatrix 0; judged = (plain_judged 10 (plain_bundle 10) (omega arith) built.0 whole built.1).1; number = refl; with = refl }

-- ---- bundles that are plain but for the byte matrices B 0, .. and the column matrices C 0, ..
module _ (B C : ℕ → List ℕ) (byte-squares : (n : ℕ) → Square 8 (B n)) (column-squares : (n : ℕ) → Square 32 (C n)) where
  built : Built 10 (λ n. plain_encoding) B C (identity 128) (identity 128)
  built = but_built 10 B C byte-squares column-squares ten_fits

  whole : Framed 10 (plain_but 10 B C)
  whole = framed 10 (plain_but 10 B C) built.framed

  lists : GoodEncodings 10 (plain_but 10 B C)
  lists = plain_lists 10 (plain_but 10 B C) built.holds.lists

  good_bytes : (n : ℕ) → n < byte_matrices 10 → BlockInvertible 2 (B n) → GoodByteMatrix 10 (plain_but 10 B C) n
  good_bytes n h = subst (BlockInvertible 2) (sym (built.holds.bytes n h))

  good_columns : (n : ℕ) → n < column_matrices 10 → BlockInvertible 8 (C n) → GoodColumnMatrix 10 (plain_but 10 B C) n
  good_columns n h = subst (BlockInvertible 8) (sym (built.holds.columns n h))

  byte_fault : (n : ℕ) → n < byte_matrices 10 → All n (λ i. BlockInvertible 2 (B i)) → Unfit 2 (B n) → RefusedWith (plain_but 10 B C) 5 n
  byte_fault n h before unfit =
      let first : FirstUnfit (byte_matrices 10) 2 (byte_matrix 10 (plain_but 10 B C)) n = record {
        below = h;
        before = λ i k. good_bytes i (omega arith) (before i k);
        here = subst (Unfit 2) (sym (built.holds.bytes n h)) unfit;
      } in
      let judged = why_judge 10 (plain_but 10 B C) built.all_bytes (Refused (ByteMatrix n)) (whole, lists, first) in
      record { refusal = ByteMatrix n; judged = judged; number = refl; with = refl }

  column_fault : (n : ℕ) → n < column_matrices 10 → All (byte_matrices 10) (λ i. BlockInvertible 2 (B i)) → All n (λ i. BlockInvertible 8 (C i))
      → Unfit 8 (C n)
      → RefusedWith (plain_but 10 B C) 6 n
  column_fault n h bytes before unfit =
      let first : FirstUnfit (column_matrices 10) 8 (column_matrix 10 (plain_but 10 B C)) n = record {
        below = h;
        before = λ i k. good_columns i (omega arith) (before i k);
        here = subst (Unfit 8) (sym (built.holds.columns n h)) unfit;
      } in
      let lower : GoodByteMatrices 10 (plain_but 10 B C) = λ i k. good_bytes i k (bytes i k) in
      let judged = why_judge 10 (plain_but 10 B C) built.all_bytes (Refused (ColumnMatrix n)) (whole, lists, lower, first) in
      record { refusal = ColumnMatrix n; judged = judged; number = refl; with = refl }

-- ---- one matrix is m, the others mix
module _ (n : ℕ) (m : List ℕ) (q : ℕ) where
  all_but_square : Square (side * q) m → (k : ℕ) → Square (side * q) (all_but n m q k)
  all_but_square square k = by (eqb k n)
    where
      by : (b : Bool) → Square (side * q) (cond b m (mixing_matrix q))
      by true = square
      by false = mixing_square q

  all_but_here : all_but n m q n ≡ m
  all_but_here = rw (eq-eqb n n refl)

  all_but_other : (k : ℕ) → k ≢ n → all_but n m q k ≡ mixing_matrix q
  all_but_other k other = rw (ne_eqb k n other)

pub last_block : LastBlock
unfolding byte_matrices column_matrices
last_block = record {
  byte = last_bad_byte;
  column = last_bad_column;
  byte_refused =
      byte_fault _ _ (all_but_square 159 (last_bad 2) 2 (last_bad_square 2)) (λ n. mixing_square 8) 159 (omega arith)
      (λ i h. subst (BlockInvertible 2) (sym (all_but_other 159 (last_bad 2) 2 i (omega arith))) mixing_matrices.0)
      (subst (Unfit 2) (sym (all_but_here 159 (last_bad 2) 2)) (inr (last_bad_block 2 (omega arith))));
  column_refused =
      column_fault _ _ (λ n. mixing_square 2) (all_but_square 35 (last_bad 8) 8 (last_bad_square 8)) 35 (omega arith)
      (λ i h. mixing_matrices.0)
      (λ i h. subst (BlockInvertible 8) (sym (all_but_other 35 (last_bad 8) 8 i (omega arith))) mixing_matrices.1)
      (subst (Unfit 8) (sym (all_but_here 35 (last_bad 8) 8)) (inr (last_bad_block 8 (omega arith))));
}

-- ---- a bundle whose only fault is that two rows of byte matrix 159 are equal
pub faulty_159 : Faulty159
unfolding byte_matrices
faulty_159 =
    let squares = all_but_square 159 twins 2 twins_square in
    let columns : ℕ → Square 32 (mixing_matrix 8) = λ n. mixing_square 8 in
    let held = (built _ _ squares columns).holds in
    let here : byte_matrix 10 (plain_but 10 (all_but 159 twins 2) (λ n. mixing_matrix 8)) 159 ≡ twins = held.bytes 159 (omega arith) ∙ all_but_here 159 twins 2 in
    record {
      bundle = plain_but 10 (all_but 159 twins 2) (λ n. mixing_matrix 8);
      bytes = (built _ _ squares columns).all_bytes;
      only_fault = record {
        framed = whole _ _ squares columns;
        lists = lists _ _ squares columns;
        others = λ n h other. good_bytes _ _ squares columns n (omega arith) (subst (BlockInvertible 2) (sym (all_but_other 159 twins 2 n other)) mixing_matrices.0);
        columns = λ n h. good_columns _ _ squares columns n h mixing_matrices.1;
        input = subst (Invertible 128) (sym held.input) (identity_invertible 128);
        output = subst (Invertible 128) (sym held.output) (identity_invertible 128);
      };
      equal_rows = ap (λ (m : List ℕ). at m 0) here ∙ twins_equal ∙ sym (ap (λ (m : List ℕ). at m 4) here);
      blocks = subst (EachBlockInvertible 2) (sym here) twins_blocks;
    }
