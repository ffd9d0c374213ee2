-- The catalogue of small matrices, document 02, Ticket 4: "List all 4 by 4 bit matrices that have an inverse, each exactly once, in rising order of the 16-bit
-- number made by their rows, row 0 highest." The list is defined over the number n of rows, with 4 as the instance. Definitions only; what they come to is stated
-- in Theorems.antt.
use Rattle.std.specs.Prelude.{Bool, not, List, [], ◌∷◌, ℕ, zero, suc, ◌*◌, ◌^◌, ltb, Result, Ok, Err}
use Rattle.answers.specs.Answers.{refused_if}
use Rattle.answers.specs.declared.Refusal.{Refusal}
use Rattle.answers.specs.declared.Refusal.TheVariants.{CataloguePosition}
use Rattle.bits.specs.Counts.{chosen}
use Rattle.bits.specs.Groups.{joined, group}
use Rattle.bits.specs.Lists.{at, tabulate}
use Rattle.inversion.specs.Elimination.{invert, has_inverse}
use Rattle.answers.specs.Answer.{Answer, answer_in}

-- "The .. number made by their rows, row 0 highest", of a matrix of n rows of n bits; and the matrix whose rows make a number.
unfoldable pub number_of_rows : ℕ → List ℕ → ℕ
number_of_rows n m = joined n n (at m)

unfoldable pub rows_of_number : ℕ → ℕ → List ℕ
rows_of_number n v = tabulate n (λ i. group n n i v)

-- The matrix of a number has an inverse: crate inversion's elimination finds one, which it does exactly where there is one (inversion/specs/Inverses.antt).
unfoldable pub is_invertible : ℕ → ℕ → Bool
is_invertible n v = has_inverse (invert n (rows_of_number n v))

-- The catalogue of the n by n matrices: of the numbers of n * n bits those whose matrix has an inverse, in rising order (`chosen`). And the one of the 4 by 4
-- matrices.
unfoldable pub catalogue_of : ℕ → List ℕ
catalogue_of n = chosen (is_invertible n) (2 ^ (n * n))

abbrev pub side : ℕ
side = 4

abbrev pub catalogue : List ℕ
catalogue = catalogue_of side

-- "There are 20,160": that the list is so long is a theorem.
abbrev pub catalogue_length : ℕ
catalogue_length = 20160

-- What the call at a position answers: the number that the rows of the matrix make, or why it is refused.
abbrev pub Entry : Type 0
Entry = Result ℕ Refusal

-- "A call gives the one at a position from 0": the element of a list at a position, or the refusal where the list ends before it.
unfoldable pub element_at : List ℕ → ℕ → Entry
element_at [] position = Err CataloguePosition
element_at (v ∷ later) zero = Ok v
element_at (v ∷ later) (suc position) = element_at later position

abbrev pub catalogue_entry : ℕ → Entry
catalogue_entry position = element_at catalogue position

-- The answer in an entry.
abbrev pub entry_answer : Entry → Answer
entry_answer r = answer_in r

-- What is turned down, from the position: "a position of 20,160 or more gets number 14, the only cause in that call".
unfoldable pub judge_position : ℕ → Answer
judge_position position = refused_if (not (ltb position catalogue_length)) CataloguePosition
