-- Laws, not definitions: the word that a spread table makes of the byte at its place is the word due, and the XOR of a group's words is
-- the next value (four lemmas, one for each kind of layer). The matrices are linear, and a column or a block is the XOR of its bytes, each
-- placed alone.
-- Assumes nothing.
use mathlib.Core.List.{List}
use mathlib.Core.Path.{◌≡◌, sym, ap, ap₂, ◌∙◌}
use Prim.Native.Nat.{ℕ, suc, ◌+◌, ◌*◌, ◌/◌, ◌%◌, ◌^◌, ◌<◌}
use native.Mathlib.Omega.{arith}
use lib.Bits.{bit_xor}
use Rattle.bits.specs.Bytes.{Bytes, Block, number, byte, number_of, bytes_of, placed}
use Rattle.bits.specs.Groups.{xor_all}
use Rattle.bits.specs.Lists.{at}
use Rattle.bits.proofs.laws.Bytes.{at_bytes_of, number_of_lt, xor_of_placed}
use Rattle.bits.proofs.laws.Groups.{group_xor, group_joined, joined_lt, joined_same, joined_xor_all, xor_placed}
use Rattle.bits.proofs.laws.XorAll.{xor_all_same, xor_all_linear}
use Rattle.bits.proofs.laws.Lists.{at_tabulate, tabulate_ext}
use Rattle.bits.proofs.laws.Xor.{Linear}
use Rattle.matrices.specs.Matrices.{product}
use Rattle.matrices.proofs.laws.Matrices.{product_lt, product_xor}
use Rattle.inversion.specs.Elimination.{inverse_of}
use Rattle.inversion.proofs.laws.Inverses.{inverse_undoes}
use Rattle.field.specs.Field.{mul}
use Rattle.field.proofs.laws.Field.{mul_lt}
use Rattle.external.specs.Coding.{multiply}
use Rattle.network.specs.Due.{summed}
use Rattle.layout.specs.declared.stage.Stage.TheVariants.{Entry}
use Rattle.whitebox.specs.Codings.{Codings, GoodMatrix, Sound, byte_matrix_at, column_matrix_at}
use Rattle.whitebox.specs.Parts.{Parts, Fine}
use Rattle.whitebox.specs.States.{keyed, mixed}
use Rattle.whitebox.specs.Values.{under_bytes, under_columns, values_at}
use Rattle.whitebox.specs.Words.{substituted, entry_word, mixed_word, second_word_of, placed_word}

-- ---- linear maps
-- Byte j of the product of n bytes and a matrix, and the same under a further byte matrix.
byte_product : (n w j : ℕ) (m : List ℕ) → Linear (λ x. byte n j (product w m x))
byte_product n w j m x y = ap (byte n j) (product_xor w (at m) x y) ∙ group_xor 8 n j (product w m x) (product w m y)

under_byte : (n w j : ℕ) (m b : List ℕ) → Linear (λ x. product 8 b (byte n j (product w m x)))
under_byte n w j m b x y = ap (product 8 b) (byte_product n w j m x y) ∙ product_xor 8 (at b) _ _

-- What is undone, of a matrix that has an inverse.
undone : (n : ℕ) (m : List ℕ) → GoodMatrix n m → (v : ℕ) → v < 2 ^ n → product n (inverse_of n m) (product n m v) ≡ v
undone n m g v h = (inverse_undoes n m g.fits g.has).left v h

-- ---- the row and the column of byte 4c + t, which the sums write as c * 4 + t
row_of : (c t : ℕ) → t < 4 → (4 * c + t) % 4 ≡ t
row_of c t h = omega arith

column_of : (c t : ℕ) → t < 4 → (4 * c + t) / 4 ≡ c
column_of c t h = omega arith

place_in : (c t : ℕ) → c * 4 + t ≡ 4 * c + t
place_in c t = omega arith

row_in : (c t : ℕ) → t < 4 → (c * 4 + t) % 4 ≡ t
row_in c t h = omega arith

column_in : (c t : ℕ) → t < 4 → (c * 4 + t) / 4 ≡ c
column_in c t h = omega arith

-- ---- the four kinds of layers
module _ (P : Parts) (fine : Fine P) (C : Codings) (sound : Sound C) where
  under_at : (r : ℕ) (s : List ℕ) (j : ℕ) → j < 16 → at (under_bytes C r s) j ≡ product 8 (byte_matrix_at C r j) (at s j)
  unfolding under_bytes
  under_at r s j h = at_tabulate 16 _ j h

  -- The byte matrix on, and off: what a position substitutes is the cipher's.
  pub substituted_is : (r : ℕ) (s : List ℕ) → Bytes s → (p : ℕ) → p < 16 → substituted P C r p (at (under_bytes C r s) (P.reads p)) ≡ at (keyed P r s) p
  unfolding substituted keyed
  substituted_is r s h p b =
      let j = P.reads p in
      ap (λ (x : ℕ). bit_xor (P.substitute (bit_xor x (P.before r j))) (P.behind r p))
      (ap (product 8 (inverse_of 8 (byte_matrix_at C r j))) (under_at r s j (fine.reads_lt p b))
      ∙ undone 8 (byte_matrix_at C r j) (sound.bytes _) (at s j) (h j))
      ∙ sym (at_tabulate 16 _ p b)

  module _ (nr : ℕ) (b : List ℕ) (block : Block b) where
    -- ---- 1. the entry takes the input matrix off and puts the matrices of round 1 on
    pub entry_next : summed (values_at P C nr b Entry) ≡ under_bytes C 1 b
    unfolding summed under_bytes entry_word multiply
    entry_next =
        tabulate_ext 16 _ _ (λ q c.
        xor_all_same 16 _ (λ i. u q (placed 16 i (byte 16 i v))) (λ i d.
        at_tabulate 16 _ (q % 16) (omega arith)
        ∙ ap₂ (λ (j p : ℕ). u j (placed 16 p (at (bytes_of 16 v) p))) (let e : q % 16 ≡ q = omega arith in e) (let e : q / 16 * 16 + i ≡ i = omega arith in e)
        ∙ ap (λ (x : ℕ). u q (placed 16 i x)) (at_bytes_of 16 v i d))
        ∙ sym (xor_all_linear (u q) (under_byte 16 128 q (inverse_of 128 C.input_matrix) (byte_matrix_at C 1 q)) 16 _)
        ∙ ap (u q) (xor_of_placed 16 v (product_lt 128 (at C.input_matrix) (number_of 16 b)))
        ∙ ap (λ (x : ℕ). product 8 (byte_matrix_at C 1 q) (byte 16 q x)) (undone 128 C.input_matrix sound.input (number_of 16 b) (number_of_lt 16 b block.bytes))
        ∙ ap (product 8 (byte_matrix_at C 1 q)) (group_joined 8 16 (at b) (λ i l. block.bytes i) q c))
      where
        v : ℕ
        v = product 128 C.input_matrix (number_of 16 b)

        u : ℕ → ℕ → ℕ
        u j x = product 8 (byte_matrix_at C 1 j) (byte 16 j (product 128 (inverse_of 128 C.input_matrix) x))

  -- ---- 2. the first half makes the state behind the column mixing, each column under its matrix
  mixed_at : (s : List ℕ) (c t : ℕ) → c < 4 → t < 4 → at (mixed P s) (4 * c + t) ≡ xor_all 4 (λ q. mul (P.coefficient t q) (at s (4 * c + q)))
  unfolding mixed
  mixed_at s c t hc ht =
      at_tabulate 16 _ (4 * c + t) (omega arith)
      ∙ ap₂ (λ (x y : ℕ). xor_all 4 (λ q. mul (P.coefficient x q) (at s (4 * y + q)))) (row_of c t ht) (column_of c t ht)

  -- k is the state in front of the mixing.
  pub first_next : (r : ℕ) (l k : List ℕ) → summed (record { width = 4; standing = l; word = λ p. mixed_word P C r p (at k p) }) ≡ under_columns C r (mixed P k)
  unfolding summed under_columns mixed_word
  first_next r l k =
      tabulate_ext 16 _ _ (λ q c.
      xor_all_same 4 _ (λ i. u q (number 4 (λ t. g q t i))) (λ i d.
      at_bytes_of 4 _ (q % 4) (omega arith)
      ∙ ap (λ (x : ℕ). byte 4 (q % 4) (product 32 (column_matrix_at C r x) (number 4 (λ t. mul (P.coefficient t ((q / 4 * 4 + i) % 4)) (at k (q / 4 * 4 + i))))))
      (column_in (q / 4) i d)
      ∙ ap₂ (λ (x y : ℕ). u q (number 4 (λ t. mul (P.coefficient t x) (at k y)))) (row_in (q / 4) i d) (place_in (q / 4) i))
      ∙ sym (xor_all_linear (u q) (byte_product 4 32 (q % 4) (column_matrix_at C r (q / 4))) 4 (λ i. number 4 (λ t. g q t i)))
      ∙ ap (u q)
      (sym (joined_xor_all 8 4 4 (g q) (λ t i h e. mul_lt (P.coefficient t i) (at k (4 * (q / 4) + i)) (fine.coefficient_lt t i)))
      ∙ joined_same 8 4 _ _ (λ t h. sym (mixed_at k (q / 4) t (omega arith) h))))
    where
      u : ℕ → ℕ → ℕ
      u q x = byte 4 (q % 4) (product 32 (column_matrix_at C r (q / 4)) x)

      g : ℕ → ℕ → ℕ → ℕ
      g q t i = mul (P.coefficient t i) (at k (4 * (q / 4) + i))

  -- ---- 3. the second half takes the column matrices off and puts the byte matrices of the next round on
  pub second_next : (r : ℕ) (s : List ℕ) → Bytes s
      → summed (record { width = 4; standing = under_columns C r s; word = λ p. second_word_of P C r p (at (under_columns C r s) p) }) ≡ under_bytes C (suc r) s
  unfolding summed under_bytes second_word_of
  second_next r s h =
      tabulate_ext 16 _ _ (λ q c.
      xor_all_same 4 _ (λ i. u (q / 4) (q % 4) (placed 4 i (byte 4 i (v (q / 4))))) (λ i d.
      at_tabulate 4 _ (q % 4) (omega arith)
      ∙ ap₂ (λ (x y : ℕ). u x (q % 4) (placed 4 y (at (under_columns C r s) (q / 4 * 4 + i)))) (column_in (q / 4) i d) (row_in (q / 4) i d)
      ∙ ap (λ (y : ℕ). u (q / 4) (q % 4) (placed 4 i (at (under_columns C r s) y))) (place_in (q / 4) i)
      ∙ ap (λ (y : ℕ). u (q / 4) (q % 4) (placed 4 i y)) (columns_at (q / 4) i (omega arith) d))
      ∙ sym (xor_all_linear (u (q / 4) (q % 4)) (under_byte 4 32 (q % 4) (inverse_of 32 (column_matrix_at C r (q / 4))) (byte_matrix_at C (suc r) (4 * (q / 4) + q % 4))) 4 _)
      ∙ ap (u (q / 4) (q % 4)) (xor_of_placed 4 (v (q / 4)) (product_lt 32 (at (column_matrix_at C r (q / 4))) (column (q / 4))))
      ∙ ap (λ (x : ℕ). product 8 (byte_matrix_at C (suc r) (4 * (q / 4) + q % 4)) (byte 4 (q % 4) x))
      (undone 32 (column_matrix_at C r (q / 4)) (sound.columns _) (column (q / 4)) (joined_lt 8 4 _ (λ t l. h (4 * (q / 4) + t))))
      ∙ ap (product 8 (byte_matrix_at C (suc r) (4 * (q / 4) + q % 4))) (group_joined 8 4 (λ t. at s (4 * (q / 4) + t)) (λ t l. h (4 * (q / 4) + t)) (q % 4) (omega arith))
      ∙ ap (λ (j : ℕ). product 8 (byte_matrix_at C (suc r) j) (at s j)) (let e : 4 * (q / 4) + q % 4 ≡ q = omega arith in e))
    where
      column : ℕ → ℕ
      column c = number 4 (λ t. at s (4 * c + t))

      v : ℕ → ℕ
      v c = product 32 (column_matrix_at C r c) (column c)

      columns_at : (c i : ℕ) → c < 4 → i < 4 → at (under_columns C r s) (4 * c + i) ≡ byte 4 i (v c)
      columns_at c i hc hi =
          unfold under_columns in
          at_tabulate 16 _ (4 * c + i) (omega arith)
          ∙ ap₂ (λ (x y : ℕ). byte 4 x (product 32 (column_matrix_at C r y) (number 4 (λ t. at s (4 * y + t))))) (row_of c i hi) (column_of c i hi)

      u : ℕ → ℕ → ℕ → ℕ
      u c t x = product 8 (byte_matrix_at C (suc r) (4 * c + t)) (byte 4 t (product 32 (inverse_of 32 (column_matrix_at C r c)) x))

  -- ---- 4. the exit puts the output matrix on the cipher's block
  pub exit_next : (l k : List ℕ) → Bytes k → summed (record { width = 16; standing = l; word = λ p. placed_word P C p (at k p) }) ≡ multiply C.output_matrix k
  unfolding summed multiply placed_word bytes_of placed
  exit_next l k h =
      tabulate_ext 16 _ _ (λ q c.
      xor_all_same 16 _ (λ i. u q (placed 16 i (at k i))) (λ i d.
      at_tabulate 16 _ (q % 16) (omega arith)
      ∙ ap₂ (λ (j p : ℕ). u j (placed 16 p (at k p))) (let e : q % 16 ≡ q = omega arith in e) (let e : q / 16 * 16 + i ≡ i = omega arith in e))
      ∙ sym (xor_all_linear (u q) (byte_product 16 128 q C.output_matrix) 16 (λ i. placed 16 i (at k i)))
      ∙ ap (u q) (xor_placed 8 16 (at k) (λ i l. h i)))
    where
      u : ℕ → ℕ → ℕ
      u q x = byte 16 q (product 128 C.output_matrix x)
