-- What is proved of the key expansion, as a statement. The proof is in proofs/laws/Key.antt.
use Rattle.std.specs.Prelude.{List, ℕ}
use Rattle.bits.specs.Bytes.{Bytes}
use Rattle.round.specs.Key.{KeyExpansion}

-- The round keys are bytes.
abbrev pub RoundKeyBytes : Type 0
RoundKeyBytes = (nk : ℕ) (key : List ℕ) → Bytes key → Bytes (KeyExpansion nk key)
