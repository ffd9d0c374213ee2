-- Laws, not definitions: the inverses of a bundle's matrices for nr rounds, as the code works them out and chooses
-- among them.
-- Assumes nothing.
use mathlib.Core.List.{List, [], ◌++◌, append-nil}
use mathlib.Core.Path.{◌≡◌, refl, sym, ap, ap₂, ◌∙◌, subst}
use Prim.Native.Nat.{ℕ, ◌+◌, ◌-◌, ◌*◌, ◌≤◌, ◌<◌}
use native.Mathlib.Decide.{dec_lt}
use native.Mathlib.Omega.{arith}
use borrow.Author.Tests.{lt-ltb, le-ltb}
use borrow.Rule.Slice.PartMut.{put_mid}
use lib.ListN.{length, take, drop, length-take}
use lib.Seq.{drop-length, take-length}
use Rattle.answers.specs.Answer.{Accepted}
use Rattle.bits.specs.Bytes.{Bytes}
use Rattle.bits.proofs.laws.Lists.{length_concat, cut, cut_is}
use Rattle.bits.proofs.laws.Offsets.{concat_row}
use Rattle.bits.proofs.laws.Parts.{Parts, part_lent, parts_more}
use Rattle.matrices.specs.Matrices.{matrix_of, Invertible}
use Rattle.matrices.specs.Rows.{words_of}
use Rattle.matrices.proofs.laws.Words.{length_words}
use Rattle.inversion.specs.Elimination.{inverse_of}
use Rattle.bundle.specs.Format.{column_matrices, column_matrix_part, input_matrix_part, column_matrix, input_matrix}
use Rattle.judgement.specs.Judge.{judge}
use Rattle.judgement.proofs.laws.Judgements.{accepted_sound}
use Rattle.layout.specs.Stages.{InRounds}
use Rattle.layout.specs.declared.stage.Stage.{Stage}
use Rattle.layout.specs.declared.stage.Stage.TheVariants.{Entry, First, Second, Exit, Beyond}
use Rattle.inverse_matrices.specs.InverseWords.{Begins, input_words, column_words, input_inverse, column_inverse, column_inverses, column_number}
use Rattle.inverse_matrices.specs.InverseWords.{spread_inverse, inverse_for, spread_chosen, chosen_from}
use Rattle.inverse_matrices.specs.Inverses.{Chosen, ColumnsLong}
use Rattle.inverse_matrices.proofs.laws.Code.{frame_of, column_part_long, input_part_long}

-- ---- the parts p of an accepted bundle that hold a matrix
module _ (nr : ℕ) (l p : List ℕ) (bytes : Bytes l) (ok : judge nr l ≡ Accepted) where
  pub input_part : p ≡ input_matrix_part nr l → (2048 ≤ length p) × Invertible 128 (matrix_of 16 p)
  input_part e =
      let long = input_part_long nr l p (frame_of nr l ok) e in
      (omega arith, subst (λ (t : List ℕ). Invertible 128 (matrix_of 16 t)) (sym e) (accepted_sound nr l bytes ok).input)

  pub column_part : (n : ℕ) → n < column_matrices nr → p ≡ column_matrix_part nr l n → (128 ≤ length p) × Invertible 32 (matrix_of 4 p)
  column_part n h e =
      let long = column_part_long nr l p (frame_of nr l ok) n h e in
      (omega arith, subst (λ (t : List ℕ). Invertible 32 (matrix_of 4 t)) (sym e) ((accepted_sound nr l bytes ok).columns n h).whole)

-- ---- words over the front of a list
-- Where they are as many as the list, they are all of it.
-- A number of a column matrix, as the format counts them.
pub column_below : (nr : ℕ) {n : ℕ} → n < 4 * (nr - 1) → n < column_matrices nr
unfolding column_matrices
column_below nr h = h

all_written : (w d d' : List ℕ) (k : ℕ) → d' ≡ w ++ drop k d → length d ≡ k → d' ≡ w
all_written w d d' k e h = e ∙ ap (λ (r : List ℕ). w ++ r) (ap (λ (n : ℕ). drop n d) (sym h) ∙ drop-length d) ∙ append-nil w

-- ---- the inverses, from the part p that holds the matrix: what the words d have become
pub input_inverse_lem : (nr : ℕ) (l p d d' : List ℕ) → p ≡ input_matrix_part nr l → length d ≡ input_words
    → d' ≡ words_of 128 (inverse_of 128 (matrix_of 16 p)) ++ drop input_words d → d' ≡ input_inverse nr l
input_inverse_lem nr l p d d' e h w = all_written _ d d' input_words w h ∙ ap (λ (t : List ℕ). words_of 128 (inverse_of 128 (matrix_of 16 t))) e

-- Those of all column matrices: a loop that fills their parts of the words d, and gets the part of matrix n back as ys.
pub columns_more : (nr count n : ℕ) (l d₀ d ys : List ℕ) → Parts count column_words (column_inverse nr l) d₀ d n → n < count
    → length ys ≡ length (cut d (n * column_words) (n * column_words + column_words))
    → ys ≡ column_inverse nr l n ++ drop column_words (cut d (n * column_words) (n * column_words + column_words))
    → Parts count column_words (column_inverse nr l) d₀ (put_mid (n * column_words) (n * column_words + column_words - n * column_words) d ys) (n + 1)
columns_more nr count n l d₀ d ys g h kept e =
    parts_more g h kept (all_written _ (cut d (n * column_words) (n * column_words + column_words)) ys column_words e (part_lent g h).long)

pub columns_long : ColumnsLong
unfolding column_inverses
columns_long nr l = length_concat column_words (column_inverse nr l) (column_matrices nr) (λ n h. length_words 32 (inverse_of 32 (column_matrix nr l n)))

-- ---- the one that table j of stage s is made with, into the front of the words d, which have become d'
module _ (nr : ℕ) (l : List ℕ) (s : Stage) (j : ℕ) where
  none_for : 15 < j → inverse_for nr l s j ≡ []
  unfolding inverse_for
  none_for h = rw (le-ltb j 16 (omega arith))

  spread_for : j ≤ 15 → (t : Stage) → s ≡ t → inverse_for nr l s j ≡ spread_inverse nr l t j
  unfolding inverse_for
  spread_for h t e = rw (lt-ltb j 16 (omega arith)) (ap (λ (t : Stage). spread_inverse nr l t j) e)

module _ (nr : ℕ) (l : List ℕ) (s : Stage) (j : ℕ) (d d' : List ℕ) where
  abbrev Written : Type 0
  Written = d' ≡ inverse_for nr l s j ++ drop (length (inverse_for nr l s j)) d

  told : (w : List ℕ) (k : ℕ) → inverse_for nr l s j ≡ w → length w ≡ k → d' ≡ w ++ drop k d → Written
  told w k e h q = q ∙ ap₂ (λ (u : List ℕ) (n : ℕ). u ++ drop n d) (sym e) (sym h ∙ ap length (sym e))

  pub made_entry : j ≤ 15 → s ≡ Entry → length d ≡ input_words → d' ≡ input_inverse nr l → Written
  made_entry h e long q =
      let rest : drop input_words d ≡ [] = ap (λ (n : ℕ). drop n d) (sym long) ∙ drop-length d in
      told (input_inverse nr l) input_words (spread_for nr l s j h _ e) (length_words 128 (inverse_of 128 (input_matrix nr l)))
      (q ∙ sym (append-nil (input_inverse nr l)) ∙ ap (λ (r : List ℕ). input_inverse nr l ++ r) (sym rest))

  pub made_second : (r n : ℕ) → j ≤ 15 → s ≡ Second r → n ≡ column_number r j → d' ≡ column_inverse nr l n ++ drop column_words d → Written
  made_second r n h e number q =
      told (column_inverse nr l (column_number r j)) column_words (spread_for nr l s j h _ e)
      (length_words 32 (inverse_of 32 (column_matrix nr l (column_number r j))))
      (q ∙ ap (λ (n : ℕ). column_inverse nr l n ++ drop column_words d) number)

  -- The words are as they were where the table is made with none: an XOR table, or in a stage t whose tables are.
  pub made_xor : 15 < j → d' ≡ d → Written
  made_xor h q = told [] 0 (none_for nr l s j h) refl q

  pub made_none : (t : Stage) → j ≤ 15 → s ≡ t → spread_inverse nr l t j ≡ [] → d' ≡ d → Written
  made_none t h e none q = told [] 0 (spread_for nr l s j h _ e ∙ none) refl q

-- ---- where all are worked out: the words that are handed over for table j of stage s
module _ (columns input : List ℕ) (s : Stage) (j : ℕ) where
  pub chosen_xor : 15 < j → input ≡ chosen_from columns input s j
  unfolding chosen_from
  chosen_xor h = rw (le-ltb j 16 (omega arith)) refl

  pub chosen_spread : (t : Stage) (m : List ℕ) → j ≤ 15 → s ≡ t → m ≡ spread_chosen columns input t j → m ≡ chosen_from columns input s j
  unfolding chosen_from
  chosen_spread t m h e q = q ∙ rw (lt-ltb j 16 (omega arith)) (ap (λ (t : Stage). spread_chosen columns input t j) (sym e))

  -- The code lends the words of column matrix n.
  pub chosen_second : (r n : ℕ) → j ≤ 15 → s ≡ Second r → n ≡ column_number r j
      → cut columns (n * column_words) (n * column_words + column_words) ≡ chosen_from columns input s j
  chosen_second r n h e number =
      chosen_spread _ _ h e (cut_is columns (n * column_words) column_words ∙ ap (λ (n : ℕ). take column_words (drop (n * column_words) columns)) number)

module _ (nr : ℕ) (l : List ℕ) where
  column_begins : (n : ℕ) → n < column_matrices nr → Begins (column_inverse nr l n) (take column_words (drop (n * column_words) (column_inverses nr l)))
  unfolding column_inverses
  column_begins n h =
      let here = concat_row column_words (column_inverse nr l) (column_matrices nr) (λ n h. length_words 32 (inverse_of 32 (column_matrix nr l n))) n h in
      ap (take (length (column_inverse nr l n))) here ∙ take-length (column_inverse nr l n)

  begins_spread : (s : Stage) (j : ℕ) → j < 16 → InRounds nr s → Begins (spread_inverse nr l s j) (spread_chosen (column_inverses nr l) (input_inverse nr l) s j)
  unfolding column_matrices
  begins_spread Entry j h k = take-length (input_inverse nr l)
  begins_spread (First r) j h k = refl
  begins_spread (Second r) j h k = column_begins (column_number r j) (omega arith)
  begins_spread Exit j h k = refl
  begins_spread Beyond j h k = refl

-- ---- words m that begin with the inverse that spread table p of stage s is made with
taken : (k : ℕ) (w u m : List ℕ) → u ≡ w → length w ≡ k → Begins u m → (k ≤ length m) × (take k m ≡ w)
taken k w u m e h b =
    let front : take k m ≡ w = ap (λ (n : ℕ). take n m) (sym h ∙ ap length (sym e)) ∙ b ∙ e in
    (omega (arith, sym (length-take k m) ∙ ap length front, h), front)

module _ (nr : ℕ) (l : List ℕ) (s : Stage) (p : ℕ) (m : List ℕ) (small : p < 16) (b : Begins (inverse_for nr l s p) m) where
  pub begins_entry : s ≡ Entry → (input_words ≤ length m) × (take input_words m ≡ input_inverse nr l)
  begins_entry e = taken input_words _ _ m (spread_for nr l s p (omega arith) Entry e) (length_words 128 (inverse_of 128 (input_matrix nr l))) b

  pub begins_second : (r : ℕ) → s ≡ Second r → (column_words ≤ length m) × (take column_words m ≡ column_inverse nr l (column_number r p))
  begins_second r e =
      taken column_words _ _ m (spread_for nr l s p (omega arith) (Second r) e) (length_words 32 (inverse_of 32 (column_matrix nr l (column_number r p)))) b

-- ---- what is chosen begins with it
pub chosen_begins : Chosen
unfolding inverse_for chosen_from
chosen_begins nr l s j k = elim (dec_lt j 16) [
  | yes h ↦ rw (lt-ltb j 16 h) (begins_spread nr l s j h k)
  | no h ↦ rw (le-ltb j 16 (omega arith)) refl
]
