-- Laws, not definitions: the judgement as the code meets it, by the test of a branch.
-- Assumes nothing.
use mathlib.Core.Bool.{Bool, true, false, not, ◌||◌, or-true, or-false}
use mathlib.Core.List.{List}
use mathlib.Core.Path.{◌≡◌, refl, sym, ap, ◌∙◌}
use Prim.Native.Nat.{ℕ, ◌+◌, ◌-◌, ◌*◌, ◌≤◌, ◌<◌}
use native.Mathlib.Omega.{arith}
use lib.ListN.{length, take, drop}
use Rattle.bits.specs.Lists.{part_of}
use Rattle.matrices.specs.Matrices.{matrix_of}
use Rattle.inversion.specs.Elimination.{invert, has_inverse}
use Rattle.blocks.specs.Blocks.{some_block_bad}
use Rattle.bundle.specs.Format.{most_encodings, part_count, part_size, section_length, frame, section_of, part_at, input_matrix_part, output_matrix_part}
use Rattle.answers.specs.Search.{first, refused_at}
use Rattle.answers.specs.declared.Refusal.{Refusal}
use Rattle.answers.specs.declared.Refusal.TheVariants.{Encoding, ByteMatrix, ColumnMatrix, InputMatrix, OutputMatrix}
use Rattle.bundle.proofs.laws.Frame.{section_length_lem}
use Rattle.bits.proofs.laws.Cuts.{part_cut}
use Rattle.judgement.specs.Asked.{MatricesIn, MatrixSection}
use Rattle.judgement.specs.Judge.{no_permutation, no_inverse, mixing_bad}
use Rattle.judgement.specs.Judge.{judge_encodings, judge_byte_matrices, judge_column_matrices, judge_block_matrices, judge}
use Rattle.answers.specs.Answer.{Answer, Accepted, Refused}
use Rattle.std.specs.Prelude.{Option}

-- ---- a matrix: r is what the elimination of the matrix that the bytes p write answers
pub inverse_told : (w : ℕ) (p : List ℕ) {r : Bool} → r ≡ has_inverse (invert (8 * w) (matrix_of w p)) → not r ≡ no_inverse w p
unfolding no_inverse
inverse_told w p e = ap not e

-- A byte or column matrix: b is what the test of its blocks says, r the one of the whole.
module _ (w : ℕ) (p : List ℕ) {b : Bool} (e : b ≡ some_block_bad (2 * w) (matrix_of w p)) where
  pub mixing_block : b ≡ true → true ≡ mixing_bad w p
  unfolding mixing_bad
  mixing_block t = sym (or-true (no_inverse w p)) ∙ ap (λ (x : Bool). no_inverse w p || x) (sym t ∙ e)

  pub mixing_whole : b ≡ false → {r : Bool} → r ≡ no_inverse w p → r ≡ mixing_bad w p
  unfolding mixing_bad
  mixing_whole t told = told ∙ sym (or-false (no_inverse w p)) ∙ ap (λ (x : Bool). no_inverse w p || x) (sym t ∙ e)

-- Byte or column matrix k of a section s is bad.
abbrev pub bad_mixing_in : ℕ → ℕ → List ℕ → ℕ → Bool
bad_mixing_in w size s k = mixing_bad w (part_of size s k)

-- as the code cuts it
pub mixing_cut : (w size : ℕ) (s : List ℕ) (k : ℕ) {r : Bool} → r ≡ mixing_bad w (take ((k * size + size) - k * size) (drop (k * size) s))
    → r ≡ bad_mixing_in w size s k
mixing_cut w size s k e = e ∙ ap (mixing_bad w) (part_cut size s k)

-- ---- a search in section s; t is the section, with count parts of one size
section_room : (nr : ℕ) (l : List ℕ) (s : ℕ) {t : List ℕ} {size count : ℕ} → t ≡ section_of nr l s → size ≡ part_size s → count ≡ part_count nr s
    → frame nr l ≡ Accepted → s < 5 → count * size ≤ length t
unfolding section_length
section_room nr l s a b c f h = rw (a, b, c) (omega (arith, section_length_lem nr l f s h))

module _ (nr : ℕ) (l : List ℕ) (s : ℕ) {t : List ℕ} {size count : ℕ} (a : t ≡ section_of nr l s) (b : size ≡ part_size s)
    (c : (count ≡ part_count nr s) × (count ≤ most_encodings)) (w : ℕ) where
  -- what the search asks
  pub matrices_asked : MatrixSection nr l s w → MatricesIn t w size count
  matrices_asked S = record {
    narrow = S.narrow;
    square = b ∙ S.square;
    numbered = omega (arith, c.1);
    room = section_room nr l s a b c.0 S.framed S.there;
  }

  pub matrices_searched : {f : Option ℕ} → f ≡ first count (bad_mixing_in w size t) → f ≡ first (part_count nr s) (λ n. mixing_bad w (part_at nr l s n))
  unfolding part_at
  matrices_searched e = e ∙ rw (a, b, c.0)

pub encodings_asked : (nr : ℕ) (l : List ℕ) {t : List ℕ} {count : ℕ} → t ≡ section_of nr l 0 → (count ≡ part_count nr 0) × (count ≤ most_encodings)
    → frame nr l ≡ Accepted → (count ≤ most_encodings) × (count * 8 ≤ length t)
unfolding part_size
encodings_asked nr l a c f = (c.1, section_room nr l 0 {size = 8} a refl c.0 f (omega arith))

-- ---- causes 4 to 6: the search found f, and the judgement is the refusal for it
pub encodings_judged : (nr : ℕ) (l : List ℕ) {t : List ℕ} {count : ℕ} {f : Option ℕ} → t ≡ section_of nr l 0 → (count ≡ part_count nr 0) × (count ≤ most_encodings)
    → f ≡ first count (λ n. no_permutation (part_of 8 t n)) → refused_at f Encoding ≡ judge_encodings nr l
unfolding judge_encodings part_at part_size part_count
encodings_judged nr l a c e = rw (e, a, c.0)

module _ (nr : ℕ) (l : List ℕ) {f : Option ℕ} where
  pub bytes_judged : f ≡ first (part_count nr 1) (λ n. mixing_bad 1 (part_at nr l 1 n)) → refused_at f ByteMatrix ≡ judge_byte_matrices nr l
  unfolding judge_byte_matrices part_count
  bytes_judged e = ap (λ (x : Option ℕ). refused_at x ByteMatrix) e

  pub columns_judged : f ≡ first (part_count nr 2) (λ n. mixing_bad 4 (part_at nr l 2 n)) → refused_at f ColumnMatrix ≡ judge_column_matrices nr l
  unfolding judge_column_matrices part_count
  columns_judged e = ap (λ (x : Option ℕ). refused_at x ColumnMatrix) e

-- ---- cause 7: p is the input matrix, and x says that it has no inverse; q and y, the output matrix
module _ (nr : ℕ) (l : List ℕ) {p : List ℕ} {x : Bool} (P : p ≡ input_matrix_part nr l) (X : x ≡ no_inverse 16 p) where
  pub blocks_input : x ≡ true → Refused InputMatrix ≡ judge_block_matrices nr l
  unfolding judge_block_matrices
  blocks_input t = rw (← P, ← X, t)

  module _ (d : x ≡ false) {q : List ℕ} {y : Bool} (Q : q ≡ output_matrix_part nr l) (Y : y ≡ no_inverse 16 q) where
    pub blocks_output : y ≡ true → Refused OutputMatrix ≡ judge_block_matrices nr l
    unfolding judge_block_matrices
    blocks_output t = rw (← P, ← X, d, ← Q, ← Y, t)

    pub blocks_good : y ≡ false → Accepted ≡ judge_block_matrices nr l
    unfolding judge_block_matrices
    blocks_good t = rw (← P, ← X, d, ← Q, ← Y, t)

-- ---- cause after cause: a is what the frame is judged, b the encodings, c and d the byte and the column matrices
module _ (nr : ℕ) (l : List ℕ) {a : Answer} (A : a ≡ frame nr l) where
  pub judge_frame : {r : Refusal} → a ≡ Refused r → Refused r ≡ judge nr l
  unfolding judge
  judge_frame t = rw (← A, t)

  module _ (t : a ≡ Accepted) {b : Answer} (B : b ≡ judge_encodings nr l) where
    pub judge_encodings_lem : {r : Refusal} → b ≡ Refused r → Refused r ≡ judge nr l
    unfolding judge
    judge_encodings_lem u = rw (← A, t, ← B, u)

    module _ (u : b ≡ Accepted) {c : Answer} (C : c ≡ judge_byte_matrices nr l) where
      pub judge_bytes : {r : Refusal} → c ≡ Refused r → Refused r ≡ judge nr l
      unfolding judge
      judge_bytes v = rw (← A, t, ← B, u, ← C, v)

      module _ (v : c ≡ Accepted) {d : Answer} (D : d ≡ judge_column_matrices nr l) where
        pub judge_columns : {r : Refusal} → d ≡ Refused r → Refused r ≡ judge nr l
        unfolding judge
        judge_columns w = rw (← A, t, ← B, u, ← C, v, ← D, w)

        pub judge_blocks : d ≡ Accepted → {e : Answer} → e ≡ judge_block_matrices nr l → e ≡ judge nr l
        unfolding judge
        judge_blocks w E = E ∙ rw (← A, t, ← B, u, ← C, v, ← D, w)
