-- What the writers of an XOR table ask: records that their contracts cite. Definitions only.
use Rattle.std.specs.Prelude.{List, ◌≡◌, ℕ, length}
use Rattle.bits.specs.Encodings.{Permutation}
use Rattle.encodings.specs.Encodings.{encoding_in, Nibbles}

-- What `write_row` and `write_entries` ask of two lists, which `write` makes: what undoes the encoding of the nibble
-- that is added, and the images of the result, 16 nibbles each.
pub record ForSums (added result : List ℕ) : Type 0 where
  pub undone : Nibbles 16 added
  pub images : Nibbles 16 result

-- What `write` asks of stages, which calls it for a table of its own: the section's encodings with the three numbers
-- are permutations, and the table is an XOR table's size.
pub record ForXors (section : List ℕ) (sum added result : ℕ) (dst : List ℕ) : Type 0 where
  pub of_sum : Permutation (encoding_in section sum)
  pub of_added : Permutation (encoding_in section added)
  pub of_result : Permutation (encoding_in section result)
  pub room : length dst ≡ 128
