-- What the functions of this crate ask where that is more than three things. Definitions only.
use Rattle.std.specs.Prelude.{List, ◌≡◌, ℕ, ◌+◌, ◌*◌, ◌≤◌, ◌<◌, length}

-- Of n bytes, one of them at place i, that the rows m are multiplied with, and then the byte matrices from number
-- `first` on, of a bundle for nr rounds: `words::spread_basis`, which crate stages calls for the entry or a second half.
pub record ForSpread (nr : ℕ) (m : List ℕ) (n i first : ℕ) (basis : List ℕ) : Type 0 where
  pub width : n ≤ 16
  pub place : i < n
  pub matrices : first + n ≤ 16 * nr
  pub rows : 16 * n ≤ length m
  pub room : length basis ≡ 16
