-- Laws, not definitions: the words by stage from the matrices that the code has, the basis of words that it stores, and the images in their array.
-- Assumes nothing.
use mathlib.Core.List.{List, ◌++◌}
use mathlib.Core.Path.{◌≡◌, sym, ap, ap₂, ◌∙◌, subst}
use Prim.Native.Nat.{ℕ, suc, ◌+◌, ◌-◌, ◌*◌, ◌/◌, ◌%◌, ◌^◌, ◌≤◌, ◌<◌}
use native.Mathlib.Omega.{arith}
use lib.ListN.{take}
use lib.Seq.{get_or-take}
use Rattle.bits.specs.Bytes.{Bytes, number, byte, placed}
use Rattle.bits.specs.Lists.{at, concat}
use Rattle.bits.proofs.laws.Groups.{joined_same}
use Rattle.bits.proofs.laws.Lists.{at_concat}
use Rattle.bits.proofs.laws.Images.{images_long}
use Rattle.matrices.specs.Matrices.{product, matrix_of}
use Rattle.matrices.specs.Rows.{rows_of, stored}
use Rattle.matrices.proofs.laws.Rows.{stored_same}
use Rattle.matrices.proofs.laws.Words.{product_of_words}
use Rattle.inversion.specs.Elimination.{inverse_of}
use Rattle.field.specs.Field.{mul}
use Rattle.bundle.specs.Format.{byte_matrices, column_matrices, part_size, section_of, part_at, encoding_part, encoding_of}
use Rattle.bundle.specs.Format.{column_matrix, column_matrix_part, input_matrix, output_matrix_part}
use Rattle.bundle.proofs.laws.Parts.{at_bytes}
use Rattle.layout.specs.Stages.{InRounds}
use Rattle.layout.specs.declared.stage.Stage.{Stage}
use Rattle.layout.specs.declared.stage.Stage.TheVariants.{Entry, First, Second, Exit}
use Rattle.whitebox.specs.Bundles.{codings_of}
use Rattle.whitebox.specs.Parts.{Parts}
use Rattle.encodings.specs.Encodings.{encoding_in}
use Rattle.encodings.proofs.laws.Lists.{images_below}
use Rattle.inverse_matrices.specs.InverseWords.{Begins, input_words, column_words, input_inverse, column_inverse, column_number, inverse_for}
use Rattle.layers.specs.Layers.{spread_word}
use Rattle.inverse_matrices.proofs.laws.Code.{byte_is, column_is}
use Rattle.inverse_matrices.proofs.laws.Inverses.{begins_entry, begins_second}
use Rattle.layout.proofs.laws.Numbers.{round_second}
use Rattle.stages.specs.Spread.{word_number}
use Rattle.stages.proofs.laws.Spread.{images_front, entry_form, first_form, second_form, exit_form}

-- ---- one word, of a cipher of the parts P and nr rounds; m is the inverse that it is made with, as words
module _ (P : Parts) (nr : ℕ) (l : List ℕ) (p y : ℕ) where
  entry_code : (m : List ℕ) → 1 ≤ nr → take input_words m ≡ input_inverse nr l
      → spread_word nr l (rows_of 128 m) 16 p 0 y ≡ word_number P (codings_of nr l) Entry p y
  unfolding codings_of byte_matrices
  entry_code m some e =
      joined_same 8 16 _ _ (λ j h.
      ap₂ (λ (b : List ℕ) (v : ℕ). product 8 b (byte 16 j v)) (sym (byte_is nr l (0 + j) (omega arith)))
      (product_of_words 128 (inverse_of 128 (input_matrix nr l)) m e (placed 16 p y)))
      ∙ entry_form P (codings_of nr l) p y

  first_code : (r : ℕ) (part : List ℕ) → column_number r p < column_matrices nr → part ≡ column_matrix_part nr l (column_number r p)
      → product 32 (matrix_of 4 part) (number 4 (λ t. mul (P.coefficient t (p % 4)) y)) ≡ word_number P (codings_of nr l) (First r) p y
  first_code r part h e =
      let column = ap (matrix_of 4) e ∙ sym (column_is nr l (column_number r p) h) in
      ap (λ (m : List ℕ). product 32 m (number 4 (λ t. mul (P.coefficient t (p % 4)) y))) column
      ∙ first_form P (codings_of nr l) p y r

  second_code : (r : ℕ) (m : List ℕ) → 1 ≤ r → r < nr → p < 16 → take column_words m ≡ column_inverse nr l (column_number r p)
      → spread_word nr l (rows_of 32 m) 4 (p % 4) (16 * r + 4 * (p / 4)) y ≡ word_number P (codings_of nr l) (Second r) p y
  unfolding byte_matrices column_matrices
  second_code r m low high hp e =
      let n = column_number r p in
      let column = ap (inverse_of 32) (sym (column_is nr l n (omega arith))) in
      let times = product_of_words 32 (inverse_of 32 (column_matrix nr l n)) m e (placed 4 (p % 4) y) in
      joined_same 8 4 _ _ (λ j h.
      let i : 16 * r + 4 * (p / 4) + j ≡ 16 * (suc r - 1) + (4 * (p / 4) + j) = omega arith in
      let matrix = sym (byte_is nr l (16 * r + 4 * (p / 4) + j) (omega arith)) ∙ ap (λ (n : ℕ). (codings_of nr l).byte_matrix n) i in
      ap₂ (λ (b : List ℕ) (v : ℕ). product 8 b (byte 4 j v)) matrix (times ∙ ap (λ (t : List ℕ). product 32 t (placed 4 (p % 4) y)) column))
      ∙ second_form P (codings_of nr l) p y r

  exit_code : (part : List ℕ) → part ≡ output_matrix_part nr l → product 128 (matrix_of 16 part) (placed 16 p y) ≡ word_number P (codings_of nr l) Exit p y
  unfolding codings_of
  exit_code part e = ap (λ (t : List ℕ). product 128 (matrix_of 16 t) (placed 16 p y)) e ∙ exit_form P (codings_of nr l) p y

-- ---- the basis: the words of the bytes 2^0 to 2^7
module _ (P : Parts) (nr : ℕ) (l : List ℕ) (s : Stage) (p : ℕ) (old basis : List ℕ) where
  abbrev pub Based : Type 0
  Based = basis ≡ stored 8 (λ k. word_number P (codings_of nr l) s p (2 ^ k)) old

  pub based_entry : (m : List ℕ) → s ≡ Entry → InRounds nr s → p < 16 → Begins (inverse_for nr l s p) m
      → basis ≡ stored 8 (λ k. spread_word nr l (rows_of 128 m) 16 p 0 (2 ^ k)) old
      → Based
  based_entry m e round small i b =
      let inverse = begins_entry nr l s p m small i e in
      let some : 1 ≤ nr = subst (InRounds nr) e round in
      rw e (b ∙ stored_same 8 _ _ old (λ k h. entry_code P nr l p (2 ^ k) m some inverse.1))

  pub based_first : (r n : ℕ) (part : List ℕ) (mix : ℕ → ℕ → ℕ) → P.coefficient ≡ mix → s ≡ First r → n ≡ column_number r p → n < column_matrices nr
      → part ≡ column_matrix_part nr l n
      → basis ≡ stored 8 (λ k. product 32 (matrix_of 4 part) (number 4 (λ t. mul (mix t (p % 4)) (2 ^ k)))) old
      → Based
  based_first r n part mix same e number small is b =
      rw e (rw (sym same) at b ∙ stored_same 8 _ _ old (λ k h. first_code P nr l p (2 ^ k) r part (rw number at small) (rw number at is)))

  pub based_second : (r : ℕ) (m : List ℕ) → s ≡ Second r → InRounds nr s → p < 16 → Begins (inverse_for nr l s p) m
      → basis ≡ stored 8 (λ k. spread_word nr l (rows_of 32 m) 4 (p % 4) (16 * r + 4 * (p / 4)) (2 ^ k)) old
      → Based
  based_second r m e round small i b =
      let inverse = begins_second nr l s p m small i r e in
      let half = round_second nr e round in
      rw e (b ∙ stored_same 8 _ _ old (λ k h. second_code P nr l p (2 ^ k) r m half.low half.high small inverse.1))

  pub based_exit : (part : List ℕ) → s ≡ Exit → part ≡ output_matrix_part nr l
      → basis ≡ stored 8 (λ k. product 128 (matrix_of 16 part) (placed 16 p (2 ^ k))) old
      → Based
  based_exit part e is b = rw e (b ∙ stored_same 8 _ _ old (λ k h. exit_code P nr l p (2 ^ k) part is))

-- ---- images
-- The images of a word's encodings, read from the section of encodings, are nibbles.
pub images_lt : (nr : ℕ) (l section images rest : List ℕ) (n d : ℕ) → Bytes l → section ≡ section_of nr l 0
    → images ≡ concat d (λ h. encoding_in section (n + h)) ++ rest → (i : ℕ) → i < d * 16 → at images i < 16
unfolding part_at part_size
images_lt nr l section images rest n d bytes s e i h =
    let split : i / 16 * 16 + i % 16 ≡ i = omega arith in
    subst (λ (x : ℕ). x < 16)
    (sym (at_concat 16 (λ h. encoding_of nr l (n + h)) d (λ k g. images_long _) (i / 16) (i % 16) (omega arith) (omega arith))
    ∙ ap (at (concat d (λ h. encoding_of nr l (n + h)))) split
    ∙ ap (λ (t : List ℕ). at t i) (sym (rw s at (images_front section images rest n d e)))
    ∙ get_or-take (d * 16) images i 0 h)
    (images_below (encoding_part nr l (n + i / 16)) (at_bytes nr l 0 (n + i / 16) bytes) (i % 16))
