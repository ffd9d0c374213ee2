-- Document 01, "Programs": "Sixteen zero bytes and then 770,048 zero bytes print `00000000000000000000000000000000`." Here of the walk, for either cipher
-- and any number of rounds; what the walker writes is said in its own specs/. Proved in proofs/laws/Zeros.antt.
use Rattle.std.specs.Prelude.{List, ◌≡◌, ℕ, length, replicate}
use Rattle.layout.specs.Stages.{set_bytes}
use Rattle.calls.specs.Calls.{walked_over}

-- The walk from a block of zeros over memory of zeros, as long as a set, into a lent block: zeros.
abbrev pub ZerosFor : ℕ → ℕ → Type 0
ZerosFor c nr = (lent : List ℕ) → length lent ≡ 16 → walked_over c nr (replicate (set_bytes nr) 0) (replicate 16 0) lent ≡ replicate 16 0

abbrev pub Zeros : Type 0
Zeros = (c : ℕ) → ZerosFor c 10
