-- What the search for a bad byte or column matrix asks of what it is lent. Definitions only, which the private functions' contracts cite.
use Rattle.std.specs.Prelude.{List, ◌≡◌, ℕ, ◌*◌, ◌≤◌, ◌<◌, length}
use Rattle.bundle.specs.Format.{part_size, frame}
use Rattle.answers.specs.Answer.{Accepted}

-- The bytes s have room for `count` matrices of 8 w rows, each of `size` bytes. `judge::first_bad_matrix` lends `search::first_bad_mixing` such a section.
pub record MatricesIn (s : List ℕ) (w size count : ℕ) : Type 0 where
  pub narrow : w ≤ 16
  pub square : size ≡ 8 * w * w
  pub numbered : count < 4294967296
  pub room : count * size ≤ length s

-- Section s of a bundle with neither cause 2 nor cause 3 is one of matrices of 8 w rows. The judgements of byte and of column matrices, sections 1 and
-- 2, ask `judge::first_bad_matrix` for such a one; its number of rounds is one of the three, as the frame is accepted.
pub record MatrixSection (nr : ℕ) (l : List ℕ) (s w : ℕ) : Type 0 where
  pub framed : frame nr l ≡ Accepted
  pub there : s < 5
  pub narrow : w ≤ 16
  pub square : part_size s ≡ 8 * w * w
