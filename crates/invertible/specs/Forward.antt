-- Column k of an elimination in which only the rows behind row k count, and what the reading of its rows asks. Definitions only, which the private functions' contracts
-- cite.
use Rattle.std.specs.Prelude.{List, ◌≡◌, ℕ, ◌*◌, ◌<◌, ◌≤◌, length}
use Rattle.inversion.specs.Elimination.{left_step}

-- In column k, with the pivot in row p: the rows f became g, and those behind row k are what the elimination makes of them.
unfoldable pub ClearedBehind : ℕ → ℕ → ℕ → (ℕ → ℕ) → (ℕ → ℕ) → Type 0
ClearedBehind n k p f g = (i : ℕ) → k < i → i < n → g i ≡ left_step n k p f i

-- Rows of w bytes, at most 16 and `most` digits, which p has, and room for 8 w of them in m.
pub record Reading {R : Type 0} (most w : ℕ) (p : List ℕ) (m : List R) : Type 0 where
  pub bytes : w ≤ 16
  pub within : 8 * w ≤ most
  pub long : 8 * w * w ≤ length p
  pub room : 8 * w ≤ length m
