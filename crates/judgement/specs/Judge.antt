-- The judgement of a bundle: accepted, or the lowest cause of 2 to 7 that applies, with its first offender. What it means is said
-- without its tests in Judgements.antt. Definitions only.
use Rattle.std.specs.Prelude.{Bool, false, not, ◌||◌, List, ℕ, zero, suc, ◌*◌, eqb}
use Rattle.answers.specs.Answers.{refused_if, and_then}
use Rattle.answers.specs.declared.Refusal.TheVariants.{Encoding, ByteMatrix, ColumnMatrix, InputMatrix, OutputMatrix}
use Rattle.answers.specs.Search.{first, refused_at}
use Rattle.inversion.specs.Elimination.{invert, has_inverse}
use Rattle.bits.specs.Encodings.{images_of}
use Rattle.bits.specs.Lists.{at}
use Rattle.matrices.specs.Matrices.{matrix_of}
use Rattle.blocks.specs.Blocks.{some_block_bad}
use Rattle.bundle.specs.Format.{encodings, byte_matrices, column_matrices, frame, encoding_part, byte_matrix_part, column_matrix_part, input_matrix_part, output_matrix_part}
use Rattle.answers.specs.Answer.{Answer}

-- ---- tests
-- x is among the k numbers f j, f (j + 1), ..
unfoldable pub among : ℕ → ℕ → (ℕ → ℕ) → ℕ → Bool
among zero j f x = false
among (suc k) j f x = eqb (f j) x || among k (suc j) f x

-- One of the k numbers f i, f (i + 1), .. is among f 0, .. before it.
unfoldable pub repeats : ℕ → ℕ → (ℕ → ℕ) → Bool
repeats zero i f = false
repeats (suc k) i f = among i 0 f (f i) || repeats k (suc i) f

-- The 16 images that a list's 8 bytes give are no permutation: one of them "repeats".
unfoldable pub no_permutation : List ℕ → Bool
no_permutation p = repeats 16 0 (at (images_of p))

-- The matrix of 8 w rows that bytes write has no inverse.
unfoldable pub no_inverse : ℕ → List ℕ → Bool
no_inverse w p = not (has_inverse (invert (8 * w) (matrix_of w p)))

-- The test of byte and column matrices, the mixing bijections, of 8 w rows: it "or one of these blocks has no inverse" (document 02, Ticket 5).
unfoldable pub mixing_bad : ℕ → List ℕ → Bool
mixing_bad w p = no_inverse w p || some_block_bad (2 * w) (matrix_of w p)

-- By number, of a bundle.
abbrev pub encoding_bad : ℕ → List ℕ → ℕ → Bool
encoding_bad nr l n = no_permutation (encoding_part nr l n)

abbrev pub byte_matrix_bad : ℕ → List ℕ → ℕ → Bool
byte_matrix_bad nr l n = mixing_bad 1 (byte_matrix_part nr l n)

abbrev pub column_matrix_bad : ℕ → List ℕ → ℕ → Bool
column_matrix_bad nr l n = mixing_bad 4 (column_matrix_part nr l n)

-- ---- the judgement, a cause at a time
-- Cause 4, "list no permutation", with the "first such list".
unfoldable pub judge_encodings : ℕ → List ℕ → Answer
judge_encodings nr l = refused_at (first (encodings nr) (encoding_bad nr l)) Encoding

-- Cause 5, "byte matrix has no inverse", which now covers its blocks, with the "first such number".
unfoldable pub judge_byte_matrices : ℕ → List ℕ → Answer
judge_byte_matrices nr l = refused_at (first (byte_matrices nr) (byte_matrix_bad nr l)) ByteMatrix

-- Cause 6, "column matrix has none", in the same way, with the "first such number".
unfoldable pub judge_column_matrices : ℕ → List ℕ → Answer
judge_column_matrices nr l = refused_at (first (column_matrices nr) (column_matrix_bad nr l)) ColumnMatrix

-- Cause 7, "block matrix has none": "0 input or both, 1 output only".
unfoldable pub judge_block_matrices : ℕ → List ℕ → Answer
judge_block_matrices nr l =
    and_then (refused_if (no_inverse 16 (input_matrix_part nr l)) InputMatrix) (refused_if (no_inverse 16 (output_matrix_part nr l)) OutputMatrix)

-- All causes of a bundle in document 01's order: 2 and 3, then 4 to 7.
unfoldable pub judge : ℕ → List ℕ → Answer
judge nr l =
    and_then (frame nr l)
    (and_then (judge_encodings nr l) (and_then (judge_byte_matrices nr l) (and_then (judge_column_matrices nr l) (judge_block_matrices nr l))))
