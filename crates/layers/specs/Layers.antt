-- The words of a spread table, of the bytes 2^0 to 2^7. Definitions only.
use Rattle.std.specs.Prelude.{List, ℕ, ◌+◌, ◌*◌, ◌^◌}
use Rattle.bits.specs.Bytes.{number, byte, placed}
use Rattle.bits.specs.Lists.{part_of}
use Rattle.matrices.specs.Matrices.{product, matrix_of}
use Rattle.matrices.specs.Rows.{rows_of, stored}
use Rattle.field.specs.Field.{mul}
use Rattle.round.specs.State.{mix_rows, inv_mix_rows, entry}
use Rattle.bundle.specs.Format.{byte_matrix}
use Rattle.layout.specs.Ciphers.{for_cipher}

-- `old` with the words that f has of the bytes 2^0 to 2^7 as its rows.
abbrev pub basis_of : (ℕ → ℕ) → List ℕ → List ℕ
basis_of f old = stored 8 (λ k. f (2 ^ k)) old

-- The byte y times column q of MixColumns, or of InvMixColumns: four bytes in a word.
abbrev pub mixed_column : ℕ → ℕ → ℕ → ℕ
mixed_column c q y = number 4 (λ t. mul (entry (for_cipher c mix_rows inv_mix_rows) t q) y)

-- Each of the n bytes of v times its byte matrix: those of a section that are numbered from `first` on.
abbrev pub by_matrices : List ℕ → ℕ → ℕ → ℕ → ℕ
by_matrices section first n v = number n (λ j. product 8 (matrix_of 1 (part_of 8 section (first + j))) (byte n j v))

-- The word of byte y at place i of n bytes that are else 0: they are multiplied by the matrix m, then each byte by its byte matrix, from number `first` on.
abbrev pub spread_word : ℕ → List ℕ → List ℕ → ℕ → ℕ → ℕ → ℕ → ℕ
spread_word nr l m n i first y = number n (λ j. product 8 (byte_matrix nr l (first + j)) (byte n j (product (8 * n) m (placed n i y))))

-- The bases of words: of the entry and of second halves, from the words m of a matrix of 8 n rows; of first halves and of the exit, from the bytes that
-- write a column matrix and the output matrix.
abbrev pub spread_basis : ℕ → List ℕ → List ℕ → ℕ → ℕ → ℕ → List ℕ → List ℕ
spread_basis nr l m n i first old = basis_of (spread_word nr l (rows_of (8 * n) m) n i first) old

abbrev pub mixed_basis : ℕ → List ℕ → ℕ → List ℕ → List ℕ
mixed_basis c part q old = basis_of (λ y. product 32 (matrix_of 4 part) (mixed_column c q y)) old

abbrev pub placed_basis : List ℕ → ℕ → List ℕ → List ℕ
placed_basis part i old = basis_of (λ y. product 128 (matrix_of 16 part) (placed 16 i y)) old
