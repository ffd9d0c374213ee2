-- What is proved of the numbers of rounds, as a statement. The proof is in proofs/laws/Known.antt.
use Rattle.std.specs.Prelude.{true, ◌≡◌, ℕ}
use Rattle.rounds.specs.Rounds.{known, Rounds}

-- 10, 12 and 14 are numbers of rounds; and a number is one exactly where `known` says so, which names these three.
pub record ThreeNumbers : Type 0 where
  pub ten : Rounds 10
  pub twelve : Rounds 12
  pub fourteen : Rounds 14
  pub only_known : (nr : ℕ) → Rounds nr → known nr ≡ true
  pub all_known : (nr : ℕ) → known nr ≡ true → Rounds nr
