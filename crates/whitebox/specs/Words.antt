-- What each spread table makes of the byte that indexes it, decoded: the four kinds of document 01, "Spread tables". Position p = 4c+q. What is quoted here is of
-- the forward cipher; the inverse cipher has its own row shift, S-box, column mixing and key bytes in their places (Parts.antt). Definitions only.
use Rattle.std.specs.Prelude.{List, ℕ, suc, ◌+◌, ◌*◌, ◌/◌, ◌%◌}
use Rattle.std.specs.Int.Bits.{bit_xor}
use Rattle.bits.specs.Bytes.{number, byte, bytes_of, placed}
use Rattle.bits.specs.Lists.{tabulate}
use Rattle.matrices.specs.Matrices.{product}
use Rattle.inversion.specs.Elimination.{inverse_of}
use Rattle.field.specs.Field.{mul}
use Rattle.whitebox.specs.Codings.{Codings, byte_matrix_at, column_matrix_at}
use Rattle.whitebox.specs.Parts.{Parts}

module _ (P : Parts) (C : Codings) where
  -- "Read byte j [..], multiply by the inverse of matrix (r, j), XOR byte j of round key r−1, S-box"; in the last round "then XOR byte p of
  -- round key 10". x is the byte read.
  unfoldable pub substituted : ℕ → ℕ → ℕ → ℕ
  substituted r p x =
      let j = P.reads p in
      bit_xor (P.substitute (bit_xor (product 8 (inverse_of 8 (byte_matrix_at C r j)) x) (P.before r j))) (P.behind r p)

  -- Entry, byte i: "place it in a zero block, multiply by the inverse of the input matrix, then each byte j by byte matrix (1, j)".
  unfoldable pub entry_word : ℕ → ℕ → List ℕ
  entry_word i x =
      tabulate 16 (λ j. product 8 (byte_matrix_at C 1 j) (byte 16 j (product 128 (inverse_of 128 C.input_matrix) (placed 16 i x))))

  -- "Multiply by column q of MixColumns, then by column matrix (r, c)": of the byte y behind the substitution.
  unfoldable pub mixed_word : ℕ → ℕ → ℕ → List ℕ
  mixed_word r p y = bytes_of 4 (product 32 (column_matrix_at C r (p / 4)) (number 4 (λ t. mul (P.coefficient t (p % 4)) y)))

  -- Round r, first half.
  abbrev pub first_word : ℕ → ℕ → ℕ → List ℕ
  first_word r p x = mixed_word r p (substituted r p x)

  -- Round r, second half: "place byte p in row q of a zero column, multiply by the inverse of column matrix (r, c), then each row t by
  -- matrix (r+1, 4c+t)".
  unfoldable pub second_word_of : ℕ → ℕ → ℕ → List ℕ
  second_word_of r p x =
      tabulate 4 (λ t.
      product 8 (byte_matrix_at C (suc r) (4 * (p / 4) + t)) (byte 4 t (product 32 (inverse_of 32 (column_matrix_at C r (p / 4))) (placed 4 (p % 4) x))))

  -- "Place at byte p of a zero block, multiply by the output matrix": of the byte y behind the substitution.
  unfoldable pub placed_word : ℕ → ℕ → List ℕ
  placed_word p y = bytes_of 16 (product 128 C.output_matrix (placed 16 p y))

  -- Exit, after r rounds.
  abbrev pub exit_word : ℕ → ℕ → ℕ → List ℕ
  exit_word r p x = placed_word p (substituted r p x)
