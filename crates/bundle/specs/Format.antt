-- The bundle's format (document 01, "The bundle"): sizes, the five pairs, causes 2 and 3, and the sections' parts by number. Every
-- size is over the number nr of rounds; document 01's own numbers are those for ten (`Sizes` of Frames.antt). Definitions only.
use Rattle.std.specs.Prelude.{Bool, cond, not, ◌||◌, List, [], ◌≡◌, ℕ, zero, suc, ◌+◌, ◌-◌, ◌*◌, ◌≤◌, eqb, ltb, length, take, drop}
use Rattle.rounds.specs.Rounds.{known}
use Rattle.answers.specs.Answers.{refused_if, and_then, if_accepted}
use Rattle.answers.specs.declared.Refusal.TheVariants.{BundleLength, Pair}
use Rattle.answers.specs.Search.{first, refused_at}
use Rattle.bits.specs.Bytes.{number_at}
use Rattle.bits.specs.Encodings.{images_of}
use Rattle.bits.specs.Lists.{part_of}
use Rattle.matrices.specs.Matrices.{matrix_of}
use Rattle.answers.specs.Answer.{Answer}

-- ---- sizes
-- How many encodings there are: 32 for the block that is read, 992 for the entry and for the exit, 448 for each round between them
-- ("6,048 lists").
unfoldable pub encodings : ℕ → ℕ
encodings nr = 32 + 2 * 992 + (nr - 1) * 448

-- "160 byte matrices, 8 by 8, number 16(r−1)+j for round r = 1..10 and state byte j".
unfoldable pub byte_matrices : ℕ → ℕ
byte_matrices nr = 16 * nr

-- "36 column matrices, 32 by 32, number 4(r−1)+c for r = 1..9 and column c".
unfoldable pub column_matrices : ℕ → ℕ
column_matrices nr = 4 * (nr - 1)

-- 14 rounds have the most encodings, and no section has more parts than that.
abbrev pub most_encodings : ℕ
most_encodings = 7840

-- The five sections in the order of their pairs: encodings, byte matrices, column matrices, input matrix, output matrix. How many
-- parts section s has, none behind the fifth, and how many bytes a part of it has.
unfoldable pub part_count : ℕ → ℕ → ℕ
part_count nr zero = encodings nr
part_count nr (suc zero) = byte_matrices nr
part_count nr (suc (suc zero)) = column_matrices nr
part_count nr (suc (suc (suc zero))) = 1
part_count nr (suc (suc (suc (suc zero)))) = 1
part_count nr (suc (suc (suc (suc (suc s))))) = 0

unfoldable pub part_size : ℕ → ℕ
part_size zero = 8
part_size (suc zero) = 8
part_size (suc (suc zero)) = 128
part_size (suc (suc (suc s))) = 2048

unfoldable pub section_length : ℕ → ℕ → ℕ
section_length nr s = part_count nr s * part_size s

-- "58,408 to 65,536 bytes": the shortest bundle has the five pairs and the five sections and nothing else.
unfoldable pub shortest : ℕ → ℕ
unfolding section_length
shortest nr = 40 + section_length nr 0 + section_length nr 1 + section_length nr 2 + section_length nr 3 + section_length nr 4

-- For 12 and 14 rounds "bundles may reach 131,072"; for any other number no bundle has a right length (document 02, Ticket 14).
unfoldable pub longest : ℕ → ℕ
longest nr = cond (known nr) (cond (eqb nr 10) 65536 131072) 0

-- ---- pairs
-- "five pairs of offset and length, each number 4 bytes, most significant first": the two of pair i.
abbrev pub offset : List ℕ → ℕ → ℕ
offset l i = number_at l (8 * i)

abbrev pub stated : List ℕ → ℕ → ℕ
stated l i = number_at l (8 * i + 4)

-- "A section starts at or after byte 40 and the end of the section before it": what section i has to start behind. Up to the first
-- bad pair the end of a section is behind byte 40 too.
unfoldable pub end_before : List ℕ → ℕ → ℕ
end_before l zero = 40
end_before l (suc i) = offset l i + stated l i

-- Pair i is right: it has its section's length, and the section starts where it may "and ends within the bundle".
pub record PairRight (nr : ℕ) (l : List ℕ) (i : ℕ) : Type 0 where
  pub long : stated l i ≡ section_length nr i
  pub behind : end_before l i ≤ offset l i
  pub within : offset l i + stated l i ≤ length l

unfoldable pub pair_bad : ℕ → List ℕ → ℕ → Bool
pair_bad nr l i =
    not (eqb (stated l i) (section_length nr i))
    || (ltb (offset l i) (end_before l i) || ltb (length l) (offset l i + stated l i))

unfoldable pub length_bad : ℕ → List ℕ → Bool
length_bad nr l = ltb (length l) (shortest nr) || ltb (longest nr) (length l)

-- Causes 2 ("bundle length") and 3 ("pair: length, order or end", with the "first bad pair").
unfoldable pub frame : ℕ → List ℕ → Answer
frame nr l = and_then (refused_if (length_bad nr l) BundleLength) (refused_at (first 5 (pair_bad nr l)) Pair)

-- ---- sections, and their parts by number
-- Section s; empty in "a bundle with cause 2 or 3", and behind the fifth.
unfoldable pub section_of : ℕ → List ℕ → ℕ → List ℕ
section_of nr l s = if_accepted (frame nr l) (take (section_length nr s) (drop (offset l s) l)) []

-- Part n of a section, whose parts have one size.
unfoldable pub part_at : ℕ → List ℕ → ℕ → ℕ → List ℕ
part_at nr l s n = part_of (part_size s) (section_of nr l s) n

-- "The part of the bundle that holds one list", and those that hold a matrix.
abbrev pub encoding_part : ℕ → List ℕ → ℕ → List ℕ
encoding_part nr l n = part_at nr l 0 n

abbrev pub byte_matrix_part : ℕ → List ℕ → ℕ → List ℕ
byte_matrix_part nr l n = part_at nr l 1 n

abbrev pub column_matrix_part : ℕ → List ℕ → ℕ → List ℕ
column_matrix_part nr l n = part_at nr l 2 n

abbrev pub input_matrix_part : ℕ → List ℕ → List ℕ
input_matrix_part nr l = part_at nr l 3 0

abbrev pub output_matrix_part : ℕ → List ℕ → List ℕ
output_matrix_part nr l = part_at nr l 4 0

-- Encoding n (list n) as its 16 images, and the matrices as their rows.
abbrev pub encoding_of : ℕ → List ℕ → ℕ → List ℕ
encoding_of nr l n = images_of (encoding_part nr l n)

abbrev pub byte_matrix : ℕ → List ℕ → ℕ → List ℕ
byte_matrix nr l n = matrix_of 1 (byte_matrix_part nr l n)

abbrev pub column_matrix : ℕ → List ℕ → ℕ → List ℕ
column_matrix nr l n = matrix_of 4 (column_matrix_part nr l n)

abbrev pub input_matrix : ℕ → List ℕ → List ℕ
input_matrix nr l = matrix_of 16 (input_matrix_part nr l)

abbrev pub output_matrix : ℕ → List ℕ → List ℕ
output_matrix nr l = matrix_of 16 (output_matrix_part nr l)
