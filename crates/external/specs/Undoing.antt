-- Coding and uncoding, for a reader: the statements. They are proved in proofs/laws/Coding.antt.
use Rattle.std.specs.Prelude.{List, ◌≡◌, ℕ}
use Rattle.bits.specs.Bytes.{Bytes, Block}
use Rattle.bundle.specs.Built.{PlainBut}
use Rattle.judgement.specs.Judge.{judge}
use Rattle.external.specs.Coding.{encode_input, decode_input, output_first, encode_output, decode_output}
use Rattle.answers.specs.Answer.{Accepted}

-- "lists 6,016 to 6,047": document 01's number is the one for ten rounds.
abbrev pub OutputFirst : Type 0
OutputFirst = output_first 10 ≡ 6016

-- Of a block x: uncoding undoes coding and coding undoes uncoding, on both sides, and each gives a block.
pub record Undone (nr : ℕ) (l x : List ℕ) : Type 0 where
  pub input : decode_input nr l (encode_input nr l x) ≡ x
  pub input_back : encode_input nr l (decode_input nr l x) ≡ x
  pub output : decode_output nr l (encode_output nr l x) ≡ x
  pub output_back : encode_output nr l (decode_output nr l x) ≡ x
  pub input_block : Block (encode_input nr l x) × Block (decode_input nr l x)
  pub output_block : Block (encode_output nr l x) × Block (decode_output nr l x)

abbrev pub Undoing : Type 0
Undoing = (nr : ℕ) (l : List ℕ) → Bytes l → judge nr l ≡ Accepted → (x : List ℕ) → Block x → Undone nr l x

-- A bundle whose lists, input and output matrix change nothing codes a block as itself.
pub record Unchanged (nr : ℕ) (l x : List ℕ) : Type 0 where
  pub input : encode_input nr l x ≡ x
  pub output : encode_output nr l x ≡ x

abbrev pub PlainCoding : Type 0
PlainCoding = (nr : ℕ) (l : List ℕ) (B C : ℕ → List ℕ) → PlainBut nr B C l → (x : List ℕ) → Block x → Unchanged nr l x
