-- The external encodings of a block, which document 01 calls the "outer codings": a block matrix, then 32 encodings (lists). Coding a
-- block is here to encode it, uncoding to decode it. Definitions only.
use Rattle.std.specs.Prelude.{List, ◌≡◌, ℕ, ◌+◌, ◌-◌}
use Rattle.bits.specs.Bytes.{Block, number_of, bytes_of}
use Rattle.bits.specs.Encodings.{encode, decode}
use Rattle.bits.specs.Nibbles.{nibble, packed}
use Rattle.matrices.specs.Matrices.{product}
use Rattle.inversion.specs.Elimination.{inverse_of}
use Rattle.bundle.specs.Format.{encodings, encoding_of, input_matrix, output_matrix}

-- ---- encodings on the 32 nibbles (half-bytes) of a block, and off them: nibble q has encoding first + q, and E n is encoding n
unfoldable pub encode_nibbles : (ℕ → List ℕ) → ℕ → List ℕ → List ℕ
encode_nibbles E first x = packed 16 (λ q. encode (E (first + q)) (nibble x q))

unfoldable pub decode_nibbles : (ℕ → List ℕ) → ℕ → List ℕ → List ℕ
decode_nibbles E first y = packed 16 (λ q. decode (E (first + q)) (nibble y q))

-- ---- a block times a matrix of 128 rows
unfoldable pub multiply : List ℕ → List ℕ → List ℕ
multiply m x = bytes_of 16 (product 128 m (number_of 16 x))

-- ---- both, and back
unfoldable pub encode_by : (ℕ → List ℕ) → ℕ → List ℕ → List ℕ → List ℕ
encode_by E first m x = encode_nibbles E first (multiply m x)

unfoldable pub decode_by : (ℕ → List ℕ) → ℕ → List ℕ → List ℕ → List ℕ
decode_by E first m y = multiply (inverse_of 128 m) (decode_nibbles E first y)

-- "Input coding of a block: the input matrix, then lists 0 to 31 on its 32 half-bytes."
unfoldable pub encode_input : ℕ → List ℕ → List ℕ → List ℕ
encode_input nr l x = encode_by (encoding_of nr l) 0 (input_matrix nr l) x

unfoldable pub decode_input : ℕ → List ℕ → List ℕ → List ℕ
decode_input nr l y = decode_by (encoding_of nr l) 0 (input_matrix nr l) y

-- "Output coding: the output matrix, then lists 6,016 to 6,047": the last 32 encodings.
unfoldable pub output_first : ℕ → ℕ
output_first nr = encodings nr - 32

-- 14 rounds have the largest.
abbrev pub most_output_first : ℕ
most_output_first = 7808

unfoldable pub encode_output : ℕ → List ℕ → List ℕ → List ℕ
encode_output nr l x = encode_by (encoding_of nr l) (output_first nr) (output_matrix nr l) x

unfoldable pub decode_output : ℕ → List ℕ → List ℕ → List ℕ
decode_output nr l y = decode_by (encoding_of nr l) (output_first nr) (output_matrix nr l) y

-- "Two bundles have the same outer codings when both code every block alike, input and output."
pub record SameOuter (nr : ℕ) (k l : List ℕ) : Type 0 where
  pub input : (x : List ℕ) → Block x → encode_input nr k x ≡ encode_input nr l x
  pub output : (x : List ℕ) → Block x → encode_output nr k x ≡ encode_output nr l x

-- "The input coding of each is the output coding of the other" (document 02, Ticket 1), said of what they do to blocks.
pub record Crossed (nr : ℕ) (l l' : List ℕ) : Type 0 where
  pub input : (b : List ℕ) → Block b → encode_input nr l b ≡ encode_output nr l' b
  pub output : (b : List ℕ) → Block b → encode_output nr l b ≡ encode_input nr l' b
