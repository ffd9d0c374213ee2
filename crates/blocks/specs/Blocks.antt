-- The aligned 4 by 4 blocks of a bit matrix (document 02, Ticket 5: "each aligned 4 by 4 block"), over the number q of blocks beside each other: a matrix of 4 q
-- rows. What they are, and what the test of them says, is stated in Theorems.antt. Definitions only.
use Rattle.std.specs.Prelude.{Bool, not, List, ℕ, ◌+◌, ◌*◌, ◌/◌, ◌%◌}
use Rattle.answers.specs.Search.{some_below}
use Rattle.bits.specs.Groups.{joined, group}
use Rattle.bits.specs.Lists.{at, tabulate}
use Rattle.inversion.specs.Elimination.{invert, has_inverse}
use Rattle.catalogue.specs.Catalogue.{side}

-- Block i, j: of the rows 4 i to 4 i + 3 the bits 4 j to 4 j + 3, that is their nibble j.
unfoldable pub block : ℕ → List ℕ → ℕ → ℕ → List ℕ
block q m i j = tabulate side (λ r. group side q j (at m (side * i + r)))

-- The matrix of q by q blocks whose block i, j is f i j.
unfoldable pub of_blocks : ℕ → (ℕ → ℕ → List ℕ) → List ℕ
of_blocks q f = tabulate (side * q) (λ r. joined side q (λ j. at (f (r / side) j) (r % side)))

-- A block has no inverse; one of the q blocks in the rows 4 i to 4 i + 3 has none; one of all q by q has none.
unfoldable pub block_bad : ℕ → List ℕ → ℕ → ℕ → Bool
block_bad q m i j = not (has_inverse (invert side (block q m i j)))

unfoldable pub block_row_bad : ℕ → List ℕ → ℕ → Bool
block_row_bad q m i = some_below q (block_bad q m i)

unfoldable pub some_block_bad : ℕ → List ℕ → Bool
some_block_bad q m = some_below q (block_row_bad q m)
