-- What coding and uncoding ask of what they are lent. Definitions only, which the private functions' contracts cite.
use Rattle.std.specs.Prelude.{true, List, ◌≡◌, ℕ, ◌+◌, ◌≤◌, ◌<◌, length}
use Rattle.bits.specs.Encodings.{Permutation}
use Rattle.matrices.specs.Matrices.{matrix_of}
use Rattle.inversion.specs.Elimination.{invert, has_inverse}
use Rattle.judgement.specs.Judge.{judge}
use Rattle.external.specs.Coding.{output_first, most_output_first}
use Rattle.answers.specs.Answer.{Accepted}

-- Coding by the 32 encodings from `first` on, of which no number is behind the bundle's last, and by the block matrix that m holds where the bundle is
-- accepted. The calls for the input and the output side ask `coding::encode_by` so.
pub record CodesBy (nr : ℕ) (l : List ℕ) (first : ℕ) (m : List ℕ) : Type 0 where
  pub inside : first ≤ output_first nr
  pub small : first ≤ most_output_first
  pub matrix : judge nr l ≡ Accepted → 2048 ≤ length m

-- Uncoding, which needs the matrix's inverse too: `coding::decode_by`.
pub record UncodesBy (nr : ℕ) (l : List ℕ) (first : ℕ) (m : List ℕ) : Type 0 where
  pub codes : CodesBy nr l first m
  pub inverse : judge nr l ≡ Accepted → has_inverse (invert 128 (matrix_of 16 m)) ≡ true

-- Encodings that are permutations, to be taken off the block src, and a block dst to write: `coding::decode_by` asks `block::decode_nibbles` so.
pub record TakesOff (E : ℕ → List ℕ) (first : ℕ) (src dst : List ℕ) : Type 0 where
  pub small : first ≤ most_output_first
  pub read : length src ≡ 16
  pub written : length dst ≡ 16
  pub permutations : (q : ℕ) → q < 32 → Permutation (E (first + q))

-- A matrix m that has an inverse, a block src to multiply and a block dst to write: `coding::decode_by` asks `block::unmultiply` so.
pub record Unmultiplies (m src dst : List ℕ) : Type 0 where
  pub matrix : 2048 ≤ length m
  pub read : length src ≡ 16
  pub written : length dst ≡ 16
  pub inverse : has_inverse (invert 128 (matrix_of 16 m)) ≡ true
