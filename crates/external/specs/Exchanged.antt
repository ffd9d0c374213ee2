-- External encodings that houses exchange, for a reader: bundles with equal outer lists and matrices have the same outer codings, and bundles with exchanged ones
-- have the input coding of each as the output coding of the other, as docs/bundle-format.md tells houses. The statements; they are proved in
-- proofs/laws/Exchanged.antt.
use Rattle.std.specs.Prelude.{cond, List, ◌≡◌, ℕ, ◌+◌, ◌-◌, ◌≤◌, ◌<◌, ltb, replicate}
use Rattle.bits.specs.Bytes.{Bytes}
use Rattle.bits.specs.Encodings.{Permutation, plain_encoding}
use Rattle.bits.specs.Lists.{tabulate}
use Rattle.bits.specs.Nibbles.{nibble}
use Rattle.matrices.specs.Matrices.{identity, Square, Invertible}
use Rattle.bundle.specs.Built.{bundle_of}
use Rattle.bundle.specs.Format.{encoding_of, input_matrix, output_matrix, shortest, longest}
use Rattle.judgement.specs.Judge.{judge}
use Rattle.judgement.specs.Witness.{mixing_matrix}
use Rattle.external.specs.Coding.{output_first, encode_input, encode_output, SameOuter, Crossed}
use Rattle.answers.specs.Answer.{Accepted}

-- ---- equal outer lists and matrices
pub record EqualOuter (nr : ℕ) (k l : List ℕ) : Type 0 where
  pub input_lists : (q : ℕ) → q < 32 → encoding_of nr k q ≡ encoding_of nr l q
  pub output_lists : (q : ℕ) → q < 32 → encoding_of nr k (output_first nr + q) ≡ encoding_of nr l (output_first nr + q)
  pub input_matrix_lem : input_matrix nr k ≡ input_matrix nr l
  pub output_matrix_lem : output_matrix nr k ≡ output_matrix nr l

abbrev pub EqualCodeAlike : Type 0
EqualCodeAlike = (nr : ℕ) (k l : List ℕ) → EqualOuter nr k l → SameOuter nr k l

-- ---- exchanged ones: the second bundle has the first one's last 32 lists as its lists 0 to 31 and the other way round, and its input and output matrix exchanged
pub record Exchanged (nr : ℕ) (k l : List ℕ) : Type 0 where
  pub input_lists : (q : ℕ) → q < 32 → encoding_of nr k q ≡ encoding_of nr l (output_first nr + q)
  pub output_lists : (q : ℕ) → q < 32 → encoding_of nr k (output_first nr + q) ≡ encoding_of nr l q
  pub input_matrix_lem : input_matrix nr k ≡ output_matrix nr l
  pub output_matrix_lem : output_matrix nr k ≡ input_matrix nr l

abbrev pub ExchangedCross : Type 0
ExchangedCross = (nr : ℕ) (k l : List ℕ) → Exchanged nr k l → Crossed nr k l

-- ---- there are such bundles: with any one list for all nibbles of the input coding, any one for those of the output coding, and any two matrices that have inverses
-- A bundle with the list A for each nibble of the input coding, B for each of the output coding, input matrix I and output matrix O. Its byte and column matrices are
-- built from blocks (judgement/specs/Witness.antt), and its inner lists change nothing.
abbrev pub outer_lists : ℕ → List ℕ → List ℕ → ℕ → List ℕ
outer_lists nr A B n = cond (ltb n 32) A (cond (ltb n (output_first nr)) plain_encoding B)

unfoldable pub house_bundle : ℕ → List ℕ → List ℕ → List ℕ → List ℕ → List ℕ
house_bundle nr A B I O = bundle_of nr (outer_lists nr A B) (λ n. mixing_matrix 2) (λ n. mixing_matrix 8) I O

-- It and the one with both exchanged: bytes, accepted, and the input coding of each is the output coding of the other.
pub record Houses (nr : ℕ) (A B I O : List ℕ) : Type 0 where
  pub bytes : Bytes (house_bundle nr A B I O) × Bytes (house_bundle nr B A O I)
  pub accepted : (judge nr (house_bundle nr A B I O) ≡ Accepted) × (judge nr (house_bundle nr B A O I) ≡ Accepted)
  pub crossed : Crossed nr (house_bundle nr A B I O) (house_bundle nr B A O I)

abbrev pub HousesCross : Type 0
HousesCross =
    (nr : ℕ) (A B I O : List ℕ) → shortest nr ≤ longest nr → Permutation A → Permutation B → Square 128 I → Invertible 128 I → Square 128 O → Invertible 128 O
    → Houses nr A B I O

-- Their codings need not be the identity: where A turns a nibble round and B is the next nibble, a block of zeros is coded as 15s, and as ones.
abbrev pub turned_round : List ℕ
turned_round = tabulate 16 (λ v. 15 - v)

abbrev pub next_nibble : List ℕ
next_nibble = tabulate 16 (λ v. cond (ltb v 15) (v + 1) 0)

pub record Differs (l : List ℕ) : Type 0 where
  pub input : (q : ℕ) → q < 32 → nibble (encode_input 10 l (replicate 16 0)) q ≡ 15
  pub output : (q : ℕ) → q < 32 → nibble (encode_output 10 l (replicate 16 0)) q ≡ 1

abbrev pub SomeHouse : Type 0
SomeHouse = Houses 10 turned_round next_nibble (identity 128) (identity 128) × Differs (house_bundle 10 turned_round next_nibble (identity 128) (identity 128))
