-- Where a function of this crate is asked for a byte. Definitions only.
use Rattle.std.specs.Prelude.{ℕ, ◌≤◌, ◌<◌}

-- Position p of round r, of nr rounds that are numbered from 1.
pub record Position (nr r p : ℕ) : Type 0 where
  pub least : 1 ≤ r
  pub most : r ≤ nr
  pub position : p < 16
