-- The cipher's state from its parts. It is FIPS 197's, read off between the rounds: for the forward parts behind MixColumns, before the round key is added; for
-- the inverse parts behind InvMixColumns, and at the start before round key nr is added (`StatesByFips` of Ciphers.antt). Definitions only.
use Rattle.std.specs.Prelude.{List, ℕ, zero, suc, ◌+◌, ◌-◌, ◌*◌, ◌/◌, ◌%◌}
use Rattle.std.specs.Int.Bits.{bit_xor}
use Rattle.bits.specs.Groups.{xor_all}
use Rattle.bits.specs.Lists.{at, tabulate}
use Rattle.field.specs.Field.{mul}
use Rattle.whitebox.specs.Parts.{Parts}

module _ (P : Parts) where
  -- The state in front of the column mixing of round r, from the state s behind that of the round before. In the last round it is the
  -- cipher's block.
  unfoldable pub keyed : ℕ → List ℕ → List ℕ
  keyed r s = tabulate 16 (λ p. bit_xor (P.substitute (bit_xor (at s (P.reads p)) (P.before r (P.reads p)))) (P.behind r p))

  -- Each column mixed.
  unfoldable pub mixed : List ℕ → List ℕ
  mixed s = tabulate 16 (λ i. xor_all 4 (λ q. mul (P.coefficient (i % 4) q) (at s (4 * (i / 4) + q))))

  -- The state behind the column mixing of round r; for r = 0 the block b itself.
  unfoldable pub state_after : List ℕ → ℕ → List ℕ
  state_after b zero = b
  state_after b (suc r) = mixed (keyed (suc r) (state_after b r))

  -- The cipher's block, after nr rounds.
  unfoldable pub result : ℕ → List ℕ → List ℕ
  result nr b = keyed nr (state_after b (nr - 1))
