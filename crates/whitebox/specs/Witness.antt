-- A key and an accepted bundle for demands 2 and 3 and for the round trip, so that they speak of something: a bundle whose byte and column matrices are built from
-- blocks, and which is plain but for them. For a reader; proved in proofs/laws/Witness.antt.
use Rattle.std.specs.Prelude.{List, ◌≡◌, ℕ, ◌*◌, length}
use Rattle.bits.specs.Bytes.{Bytes, Block}
use Rattle.bundle.specs.Built.{PlainBut}
use Rattle.judgement.specs.Judge.{judge}
use Rattle.judgement.specs.Witness.{mixing_matrix, mixing_bundle}
use Rattle.calls.specs.Calls.{walked_over}
use Rattle.whitebox.specs.Bundles.{cipher_block, made_set}
use Rattle.whitebox.specs.Demand3.{Given}
use Rattle.external.specs.Coding.{Crossed}
use Rattle.answers.specs.Answer.{Accepted}

pub record Witness : Type 0 where
  -- The bytes hold these codings, and the bundle is accepted.
  pub holds : PlainBut 10 (λ n. mixing_matrix 2) (λ n. mixing_matrix 8) (mixing_bundle 10)
  pub bytes : Bytes (mixing_bundle 10)
  pub judged : judge 10 (mixing_bundle 10) ≡ Accepted
  -- So with any key of 16 bytes it is what demand 3 asks for.
  pub given : (key : List ℕ) → length key ≡ 4 * 4 → Bytes key → Given 4 key (mixing_bundle 10)

-- Demand 2 over any accepted bundle that is plain but for its byte and column matrices is FIPS 197 itself: its external encodings change nothing, so walking the set
-- over a block gives the cipher's block.
abbrev pub PlainWalkIsCipher : Type 0
PlainWalkIsCipher =
    (c : ℕ) (key l b lent : List ℕ) (B C : ℕ → List ℕ) → Given 4 key l → PlainBut 10 B C l → Block b → length lent ≡ 16
    → walked_over c 10 (made_set c 4 key l) b lent ≡ cipher_block c 4 key b

-- And a bundle that is plain but for them is what the round trip asks for, with itself: its input and its output coding are one.
abbrev pub PlainCrossed : Type 0
PlainCrossed = (l : List ℕ) (B C : ℕ → List ℕ) → PlainBut 10 B C l → Crossed 10 l l
