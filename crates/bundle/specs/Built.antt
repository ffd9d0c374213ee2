-- Bundles that are built from their encodings and matrices, without a free byte: the bytes, and, for a reader, what they are. The plain bundle is one
-- of them. The statements are proved in proofs/laws/Built.antt.
use Rattle.std.specs.Prelude.{List, [], ◌∷◌, ◌++◌, ◌≡◌, ℕ, zero, suc, ◌+◌, ◌≤◌, ◌<◌, length}
use Rattle.bits.specs.Bytes.{Bytes, bytes_of}
use Rattle.bits.specs.Encodings.{encoding_bytes, plain_encoding}
use Rattle.bits.specs.Lists.{at, concat}
use Rattle.matrices.specs.Matrices.{identity, Square, matrix_bytes}
use Rattle.bundle.specs.Format.{encodings, byte_matrices, column_matrices, part_count, section_length, shortest, longest, frame}
use Rattle.bundle.specs.Format.{encoding_of, byte_matrix, column_matrix, input_matrix, output_matrix}
use Rattle.answers.specs.Answer.{Accepted}

-- ---- the pairs
-- "A section starts at or after byte 40 and the end of the section before it": here just there. How many bytes of sections stand before section s, and
-- where it starts.
unfoldable pub bytes_before : ℕ → ℕ → ℕ
bytes_before nr zero = 0
bytes_before nr (suc s) = bytes_before nr s + section_length nr s

unfoldable pub built_offset : ℕ → ℕ → ℕ
built_offset nr s = 40 + bytes_before nr s

-- "five pairs of offset and length, each number 4 bytes, most significant first".
unfoldable pub pair_bytes : ℕ → ℕ → List ℕ
pair_bytes nr s = bytes_of 4 (built_offset nr s) ++ bytes_of 4 (section_length nr s)

-- ---- a bundle with the encodings E 0, E 1, .., the byte matrices B 0, .., the column matrices C 0, .., the input matrix I and the output matrix O
module _ (nr : ℕ) (E B C : ℕ → List ℕ) (I O : List ℕ) where
  -- Part n of section s: a list "in 8 bytes, two to a byte", or a matrix "stored by rows, column 0 as top bit".
  unfoldable pub part_bytes_of : ℕ → ℕ → List ℕ
  part_bytes_of zero n = encoding_bytes (E n)
  part_bytes_of (suc zero) n = matrix_bytes 1 (B n)
  part_bytes_of (suc (suc zero)) n = matrix_bytes 4 (C n)
  part_bytes_of (suc (suc (suc zero))) n = matrix_bytes 16 I
  part_bytes_of (suc (suc (suc (suc s)))) n = matrix_bytes 16 O

  unfoldable pub section_bytes : ℕ → List ℕ
  section_bytes s = concat (part_count nr s) (part_bytes_of s)

  unfoldable pub bundle_of : List ℕ
  bundle_of = concat 5 (pair_bytes nr) ++ concat 5 section_bytes

-- One that is plain but for its byte matrices B 0, .. and column matrices C 0, ..: its lists, its input and its output matrix change nothing.
abbrev pub plain_but : ℕ → (ℕ → List ℕ) → (ℕ → List ℕ) → List ℕ
plain_but nr B C = bundle_of nr (λ n. plain_encoding) B C (identity 128) (identity 128)

-- "The plain bundle has lists and matrices that change nothing."
unfoldable pub plain_bundle : ℕ → List ℕ
plain_bundle nr = plain_but nr (λ n. identity 8) (λ n. identity 32)

-- Byte by byte: its first 40 bytes for ten rounds, its lists and its byte matrices.
pub record PlainBytes : Type 0 where
  pub pairs : concat 5 (pair_bytes 10)
      ≡ 0x00 ∷ 0x00 ∷ 0x00 ∷ 0x28 ∷ 0x00 ∷ 0x00 ∷ 0xbd ∷ 0x00
      ∷ 0x00 ∷ 0x00 ∷ 0xbd ∷ 0x28 ∷ 0x00 ∷ 0x00 ∷ 0x05 ∷ 0x00
      ∷ 0x00 ∷ 0x00 ∷ 0xc2 ∷ 0x28 ∷ 0x00 ∷ 0x00 ∷ 0x12 ∷ 0x00
      ∷ 0x00 ∷ 0x00 ∷ 0xd4 ∷ 0x28 ∷ 0x00 ∷ 0x00 ∷ 0x08 ∷ 0x00
      ∷ 0x00 ∷ 0x00 ∷ 0xdc ∷ 0x28 ∷ 0x00 ∷ 0x00 ∷ 0x08 ∷ 0x00 ∷ []
  pub list : encoding_bytes plain_encoding ≡ 0x01 ∷ 0x23 ∷ 0x45 ∷ 0x67 ∷ 0x89 ∷ 0xab ∷ 0xcd ∷ 0xef ∷ []
  pub byte_matrix_lem : matrix_bytes 1 (identity 8) ≡ 0x80 ∷ 0x40 ∷ 0x20 ∷ 0x10 ∷ 0x08 ∷ 0x04 ∷ 0x02 ∷ 0x01 ∷ []

-- ---- what a built bundle is
-- A list of 16 nibbles: what the format has room for.
pub record Nibbles16 (e : List ℕ) : Type 0 where
  pub long : length e ≡ 16
  pub below : (v : ℕ) → at e v < 16

module _ (nr : ℕ) (E B C : ℕ → List ℕ) (I O : List ℕ) where
  pub record Writable : Type 0 where
    pub lists : (n : ℕ) → n < encodings nr → Nibbles16 (E n)
    pub bytes : (n : ℕ) → n < byte_matrices nr → Square 8 (B n)
    pub columns : (n : ℕ) → n < column_matrices nr → Square 32 (C n)
    pub input : Square 128 I
    pub output : Square 128 O

  -- The encodings and matrices of the bundle l, by number, are these.
  pub record Holds (l : List ℕ) : Type 0 where
    pub lists : (n : ℕ) → n < encodings nr → encoding_of nr l n ≡ E n
    pub bytes : (n : ℕ) → n < byte_matrices nr → byte_matrix nr l n ≡ B n
    pub columns : (n : ℕ) → n < column_matrices nr → column_matrix nr l n ≡ C n
    pub input : input_matrix nr l ≡ I
    pub output : output_matrix nr l ≡ O

  -- It is bytes, as few as a bundle may have; neither cause 2 nor cause 3 applies; and it holds what it was built from.
  pub record Built : Type 0 where
    pub all_bytes : Bytes (bundle_of nr E B C I O)
    pub long : length (bundle_of nr E B C I O) ≡ shortest nr
    pub framed : frame nr (bundle_of nr E B C I O) ≡ Accepted
    pub holds : Holds (bundle_of nr E B C I O)

-- The lists, the input and the output matrix of l change nothing, and its byte and column matrices are B 0, .. and C 0, ..
abbrev pub PlainBut : ℕ → (ℕ → List ℕ) → (ℕ → List ℕ) → List ℕ → Type 0
PlainBut nr B C l = Holds nr (λ n. plain_encoding) B C (identity 128) (identity 128) l

-- The lists and matrices of l change nothing.
abbrev pub Plain : ℕ → List ℕ → Type 0
Plain nr l = PlainBut nr (λ n. identity 8) (λ n. identity 32) l

-- For every number of rounds for which the shortest bundle is not too long: 10, 12 and 14 (`Sizes` of Frames.antt).
abbrev pub Building : Type 0
Building = (nr : ℕ) (E B C : ℕ → List ℕ) (I O : List ℕ) → shortest nr ≤ longest nr → Writable nr E B C I O → Built nr E B C I O

-- So the plain bundle's bytes are bytes and a plain bundle.
abbrev pub PlainBuilt : Type 0
PlainBuilt = (nr : ℕ) → shortest nr ≤ longest nr → Bytes (plain_bundle nr) × Plain nr (plain_bundle nr)
