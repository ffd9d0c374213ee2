-- The inverses of a bundle's matrices, as the words that the code holds them in, and which of them a table is made
-- with. Definitions only.
use Rattle.std.specs.Prelude.{cond, List, [], ◌++◌, ◌≡◌, ℕ, ◌+◌, ◌-◌, ◌*◌, ◌/◌, ltb, length, take, drop}
use Rattle.bits.specs.Lists.{concat}
use Rattle.matrices.specs.Matrices.{matrix_of}
use Rattle.matrices.specs.Rows.{words_of}
use Rattle.inversion.specs.Elimination.{inverse_of}
use Rattle.bundle.specs.Format.{column_matrices, column_matrix, input_matrix}
use Rattle.layout.specs.declared.stage.Stage.{Stage}
use Rattle.layout.specs.declared.stage.Stage.TheVariants.{Entry, First, Second, Exit, Beyond}

-- The words of the inverse of the input matrix, 128 rows, and of column matrix n, 32 rows; and how many these are.
abbrev pub input_words : ℕ
input_words = 256

abbrev pub column_words : ℕ
column_words = 64

-- The words of the inverse of the matrix of 8 w rows that the bytes p write.
abbrev pub written_inverse : ℕ → List ℕ → List ℕ
written_inverse w p = words_of (8 * w) (inverse_of (8 * w) (matrix_of w p))

abbrev pub input_inverse : ℕ → List ℕ → List ℕ
input_inverse nr l = words_of 128 (inverse_of 128 (input_matrix nr l))

abbrev pub column_inverse : ℕ → List ℕ → ℕ → List ℕ
column_inverse nr l n = words_of 32 (inverse_of 32 (column_matrix nr l n))

-- Those of all column matrices, one after the other.
unfoldable pub column_inverses : ℕ → List ℕ → List ℕ
column_inverses nr l = concat (column_matrices nr) (column_inverse nr l)

-- "36 column matrices [..], number 4(r−1)+c for r = 1..9 and column c": of position p = 4c+q of round r.
abbrev pub column_number : ℕ → ℕ → ℕ
column_number r p = 4 * (r - 1) + p / 4

-- The words of the one inverse that spread table p of a stage or half is made with: in the entry "multiply by the
-- inverse of the input matrix", in a second half "multiply by the inverse of column matrix (r, c)"; none elsewhere.
abbrev pub spread_inverse : ℕ → List ℕ → Stage → ℕ → List ℕ
spread_inverse nr l Entry p = input_inverse nr l
spread_inverse nr l (First r) p = []
spread_inverse nr l (Second r) p = column_inverse nr l (column_number r p)
spread_inverse nr l Exit p = []
spread_inverse nr l Beyond p = []

-- Of table j: the tables from 16 on are XOR tables, which are made with none.
unfoldable pub inverse_for : ℕ → List ℕ → Stage → ℕ → List ℕ
inverse_for nr l s j = cond (ltb j 16) (spread_inverse nr l s j) []

-- The words `old` with the words w in their front.
abbrev pub in_front : List ℕ → List ℕ → List ℕ
in_front w old = w ++ drop (length w) old

-- The words m begin with the words w.
abbrev pub Begins : List ℕ → List ℕ → Type 0
Begins w m = take (length w) m ≡ w

-- ---- where all are worked out: the words that are handed to the writer of table j, from those of the column matrices'
-- inverses and of the input matrix's. A table that is made with none is handed the latter.
abbrev pub spread_chosen : List ℕ → List ℕ → Stage → ℕ → List ℕ
spread_chosen columns input Entry p = input
spread_chosen columns input (First r) p = input
spread_chosen columns input (Second r) p = take column_words (drop (column_number r p * column_words) columns)
spread_chosen columns input Exit p = input
spread_chosen columns input Beyond p = input

unfoldable pub chosen_from : List ℕ → List ℕ → Stage → ℕ → List ℕ
chosen_from columns input s j = cond (ltb j 16) (spread_chosen columns input s j) input
