-- FIPS 197's numbers of rounds, for keys of 16, 24 and 32 bytes (document 02, Ticket 14). Definitions only.
use Rattle.std.specs.Prelude.{Bool, ◌||◌, ◌≡◌, ℕ, ◌%◌, ◌≤◌, eqb}

-- Whether nr is 10, 12 or 14.
unfoldable pub known : ℕ → Bool
known nr = eqb nr 10 || (eqb nr 12 || eqb nr 14)

-- The same as arithmetic reads it: an even number from 10 to 14. That the two say the same is `ThreeNumbers` of Theorems.antt.
pub record Rounds (nr : ℕ) : Type 0 where
  pub least : 10 ≤ nr
  pub most : nr ≤ 14
  pub even : nr % 2 ≡ 0
