-- Laws, not definitions: the words of a matrix, as rows that are stored leave them and as rows are read off again.
-- Assumes nothing.
use mathlib.Core.List.{List, ◌++◌}
use mathlib.Core.Path.{◌≡◌, refl, sym, ap, ap₂, ◌∙◌}
use Prim.Native.Nat.{ℕ, zero, suc, ◌+◌, ◌*◌, ◌/◌, ◌%◌, ◌^◌, ◌≤◌, ◌<◌}
use native.Mathlib.Numerals.{add-one}
use native.Mathlib.Omega.{arith}
use lib.ListN.{length, set, take, drop}
use lib.Seq.{get_or-take, sets-eq, take_at, drop_at, drop-drop}
use Rattle.bits.specs.Lists.{at, concat}
use Rattle.bits.specs.Words.{wide}
use Rattle.bits.proofs.laws.Lists.{tabulate_at, tabulate_ext, length_concat, at_concat}
use Rattle.bits.proofs.laws.Words.{wide_split}
use Rattle.matrices.specs.Matrices.{product}
use Rattle.matrices.specs.Rows.{row_at, rows_of, set_row, stored, row_words, words_of}
use Rattle.matrices.specs.Words.{StoredAsWords, ReadFromWords}
use Rattle.matrices.proofs.laws.Matrices.{product_rows}
use Rattle.matrices.proofs.laws.Rows.{length_stored, at_rows_of}

pub length_words : (n : ℕ) (m : List ℕ) → length (words_of n m) ≡ 2 * n
unfolding words_of
length_words n m = let long = length_concat 2 (λ i. row_words (at m i)) n (λ i h. refl) in omega arith

-- ---- stored: row n is its two words, between what stands before and behind them
set_row_words : (s : List ℕ) (n v : ℕ) → 2 * n + 2 ≤ length s → set_row s n v ≡ take (2 * n) s ++ row_words v ++ drop (2 * n + 2) s
unfolding set_row
set_row_words s n v h =
    ap (λ (k : ℕ). set (set s (2 * n) (v / 2 ^ 64)) k (v % 2 ^ 64)) (add-one (2 * n)) ∙ sets-eq (row_words v) s (2 * n) h

pub stored_words : StoredAsWords
unfolding stored words_of concat
stored_words zero m d h = refl
stored_words (suc n) m d h =
    let words = words_of n m in
    let so_far : stored n (at m) d ≡ words ++ drop (2 * n) d = stored_words n m d (omega arith) in
    let behind : drop (2 * n) (stored n (at m) d) ≡ drop (2 * n) d = ap (drop (2 * n)) so_far ∙ drop_at words (drop (2 * n) d) (2 * n) (length_words n m) in
    let next : 2 * n + 2 ≡ 2 * suc n = omega arith in
    set_row_words (stored n (at m) d) n (at m n) (omega (arith, length_stored n (at m) d))
    ∙ ap₂ (λ (u v : List ℕ). u ++ row_words (at m n) ++ v)
    (ap (take (2 * n)) so_far ∙ take_at words (drop (2 * n) d) (2 * n) (length_words n m))
    (sym (drop-drop 2 (2 * n) (stored n (at m) d)) ∙ ap (drop 2) behind ∙ drop-drop 2 (2 * n) d ∙ ap (λ (k : ℕ). drop k d) next)

-- ---- read off again: the rows of words d that begin with those of the matrix m, and the products with them
module _ (n : ℕ) (m d : List ℕ) (e : take (2 * n) d ≡ words_of n m) where
  word_at : (i j : ℕ) → i < n → j < 2 → at d (i * 2 + j) ≡ at (row_words (at m i)) j
  unfolding words_of
  word_at i j h k =
      sym (get_or-take (2 * n) d (i * 2 + j) 0 (omega arith))
      ∙ ap (λ (l : List ℕ). at l (i * 2 + j)) e
      ∙ at_concat 2 (λ i. row_words (at m i)) n (λ i g. refl) i j h k

  row_of_words : (i : ℕ) → i < n → row_at d i ≡ at m i
  unfolding row_at
  row_of_words i h =
      let high : 2 * i ≡ i * 2 + 0 = omega arith in
      let low : 2 * i + 1 ≡ i * 2 + 1 = omega arith in
      ap₂ wide (ap (at d) high ∙ word_at i 0 h (omega arith)) (ap (at d) low ∙ word_at i 1 h (omega arith)) ∙ wide_split (at m i)

  pub product_of_words : (v : ℕ) → product n (rows_of n d) v ≡ product n m v
  product_of_words v = product_rows n (at (rows_of n d)) (at m) v (λ i h. at_rows_of n d i h ∙ row_of_words i h)

pub rows_of_words : ReadFromWords
unfolding rows_of
rows_of_words n m d e long = tabulate_ext n _ _ (row_of_words n m d e) ∙ tabulate_at n m long
