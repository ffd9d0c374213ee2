-- Laws, not definitions: the byte behind the S-box, from the products of the bytes with one nibble, the S-box as a
-- table and the two key bytes.
-- Assumes nothing.
use mathlib.Core.List.{List, ◌++◌}
use mathlib.Core.Path.{◌≡◌, sym, ap, ap₂, ◌∙◌, subst}
use Prim.Native.Nat.{ℕ, ◌+◌, ◌-◌, ◌*◌, ◌%◌, ◌^◌, ◌≤◌, ◌<◌}
use native.Mathlib.Nat.{mod-eq_of_lt}
use native.Mathlib.Omega.{arith}
use lib.Bits.{bit_xor, xor_lt}
use lib.ListN.{length, set, take}
use lib.Seq.{take_at}
use Rattle.bits.specs.Bytes.{Bytes}
use Rattle.bits.specs.Lists.{at, tabulate}
use Rattle.bits.proofs.laws.Filled.{Filled, filled_more}
use Rattle.bits.proofs.laws.Lists.{at_tabulate, tabulate_ext}
use Rattle.matrices.specs.ByNibbles.{combined, nibble_byte, word_in}
use Rattle.matrices.specs.Matrices.{product, matrix_of, Invertible}
use Rattle.matrices.specs.Rows.{row_at, rows_of, stored, words_of}
use Rattle.matrices.proofs.laws.ByNibbles.{word_in_lem}
use Rattle.matrices.proofs.laws.Matrices.{product_lt, product_xor}
use Rattle.matrices.proofs.laws.Rows.{row_stored}
use Rattle.matrices.proofs.laws.Words.{length_words, product_of_words}
use Rattle.inversion.specs.Elimination.{inverse_of}
use Rattle.bundle.specs.Format.{byte_matrices, byte_matrix_part}
use Rattle.judgement.specs.Judge.{judge}
use Rattle.judgement.proofs.laws.Judgements.{accepted_sound}
use Rattle.whitebox.specs.Bundles.{codings_of}
use Rattle.whitebox.specs.Parts.{Parts}
use Rattle.whitebox.specs.Words.{substituted}
use Rattle.substitution.specs.Substituted.{behind_at}
use Rattle.inverse_matrices.proofs.laws.Code.{frame_of, byte_part_long, byte_is}
use Rattle.substitution.proofs.laws.Linear.{by_powers}
use Rattle.answers.specs.Answer.{Accepted}

-- ---- the byte behind the S-box, for every byte that is read
-- `basis` has the columns of m, `products` a row for each byte with one nibble, and `sbox` the S-box.
pub record Prepared (box : ℕ → ℕ) (m basis products sbox : List ℕ) : Type 0 where
  pub columns : (k : ℕ) → k < 8 → row_at basis k ≡ product 8 (rows_of 8 m) (2 ^ k)
  pub words : (y : ℕ) → y < 256 → word_in products y ≡ combined (row_at basis) y
  pub table : sbox ≡ tabulate 256 box

-- What the three calls leave, where `basis` was `old` and `products` was `none`.
pub prepared : {box : ℕ → ℕ} (m old none : List ℕ) {basis products sbox : List ℕ} → length old ≡ 16 → length none ≡ 64
    → basis ≡ stored 8 (λ k. product 8 (rows_of 8 m) (2 ^ k)) old
    → products ≡ stored 32 (λ r. combined (row_at basis) (nibble_byte r)) none
    → sbox ≡ tabulate 256 box
    → Prepared box m basis products sbox
prepared m old none {basis} {products} lo ln b p s = record {
  columns = λ k h. ap (λ (t : List ℕ). row_at t k) b ∙ row_stored 8 (λ k. product 8 (rows_of 8 m) (2 ^ k)) old (omega arith) k h;
  words = λ y h. word_in_lem (row_at basis) none products y ln p h;
  table = s;
}

module _ {box : ℕ → ℕ} {m basis products sbox : List ℕ} (made : Prepared box m basis products sbox) (before behind : ℕ) (b : before < 256) where
  abbrev times : ℕ → ℕ
  times = product 8 (rows_of 8 m)

  -- The product of a byte is the sum of its nibbles' rows, since it is linear in the byte.
  product_in : (y : ℕ) → y < 256 → word_in products y % 256 ≡ times y
  product_in y h =
      ap (λ (x : ℕ). x % 256)
      (made.words y h ∙ by_powers times (row_at basis) (λ u v g k. product_xor 8 (at (rows_of 8 m)) u v) made.columns y h)
      ∙ mod-eq_of_lt (product_lt 8 (at (rows_of 8 m)) y)

  pub substituted_more : (read : List ℕ) {t : List ℕ} {x v : ℕ} → Filled 256 (behind_at box m before behind read) t x → x < 256 → at read x < 256
      → v ≡ bit_xor (at sbox (bit_xor (word_in products (at read x) % 256) before)) behind
      → Filled 256 (behind_at box m before behind read) (set t x v) (x + 1)
  substituted_more read {x = x} F h small ev =
      let y = at read x in
      filled_more F h (ev
      ∙ ap (λ (z : ℕ). bit_xor z behind)
      (ap₂ (λ (l : List ℕ) (z : ℕ). at l (bit_xor z before)) made.table (product_in y small)
      ∙ at_tabulate 256 box _ (xor_lt 8 (times y) before (product_lt 8 (at (rows_of 8 m)) y) b)))

-- ---- round r of nr, position p, of an accepted bundle l: j is the position that p reads, part the byte matrix of
-- round r there
module _ (nr : ℕ) (l part : List ℕ) (r j : ℕ) (low : 1 ≤ r) (high : r ≤ nr) (h : j < 16) (ep : part ≡ byte_matrix_part nr l (16 * (r - 1) + j)) where
  number_lt : 16 * (r - 1) + j < byte_matrices nr
  unfolding byte_matrices
  number_lt = omega arith

  pub byte_part_room : judge nr l ≡ Accepted → 8 ≤ length part
  byte_part_room a = omega (arith, byte_part_long nr l part (frame_of nr l a) (16 * (r - 1) + j) number_lt ep)

  pub byte_part_invertible : Bytes l → judge nr l ≡ Accepted → Invertible 8 (matrix_of 1 part)
  byte_part_invertible bytes a =
      subst (λ (t : List ℕ). Invertible 8 (matrix_of 1 t)) (sym ep) ((accepted_sound nr l bytes a).bytes (16 * (r - 1) + j) number_lt).whole

  -- Of a cipher of the parts P: rows has the words of the inverse, `before` and `behind` are the key bytes, `box` is
  -- the S-box, t the bytes that are left.
  pub behind_is : (P : Parts) (box : ℕ → ℕ) (read rest rows : List ℕ) (p before behind : ℕ) (t : List ℕ) → P.substitute ≡ box → j ≡ P.reads p
      → rows ≡ words_of 8 (inverse_of 8 (matrix_of 1 part)) ++ rest → before ≡ P.before r j → behind ≡ P.behind r p
      → t ≡ tabulate 256 (behind_at box rows before behind read)
      → t ≡ tabulate 256 (λ x. substituted P (codings_of nr l) r p (at read x))
  unfolding substituted
  behind_is P box read rest rows p before behind t es ej er ea eb e =
      let n = 16 * (r - 1) + j in
      let words = words_of 8 (inverse_of 8 (matrix_of 1 part)) in
      let begins = ap (take 16) er ∙ take_at words rest 16 (length_words 8 (inverse_of 8 (matrix_of 1 part))) in
      let matrix = sym (byte_is nr l n number_lt) ∙ ap (λ (k : ℕ). (codings_of nr l).byte_matrix (16 * (r - 1) + k)) ej in
      let inverse = ap (λ (q : List ℕ). inverse_of 8 (matrix_of 1 q)) ep ∙ ap (inverse_of 8) matrix in
      let key = ea ∙ ap (P.before r) ej in
      e ∙ ap (λ (f : ℕ → ℕ). tabulate 256 (behind_at f rows before behind read)) (sym es) ∙ tabulate_ext 256 _ _ (λ x g.
      let decoded = product_of_words 8 (inverse_of 8 (matrix_of 1 part)) rows begins (at read x) ∙ ap (λ (m : List ℕ). product 8 m (at read x)) inverse in
      ap₂ bit_xor (ap P.substitute (ap₂ bit_xor decoded key)) eb)
