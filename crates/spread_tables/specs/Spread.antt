-- What the words of a spread table are made of. Definitions only.
use Rattle.std.specs.Prelude.{List, ℕ, ◌+◌, ◌*◌, ◌/◌, ◌%◌}
use Rattle.bits.specs.Bytes.{bytes_of}
use Rattle.bits.specs.Nibbles.{nibble, pack, packed}

-- The m bytes of a word with their nibbles encoded: images (16 h + v) is the image of v under the encoding of nibble h.
unfoldable pub encoded_bytes : (ℕ → ℕ) → ℕ → List ℕ → List ℕ
encoded_bytes images m l = packed m (λ h. images (16 * h + nibble l h))

-- The same of the word v.
abbrev pub encoded_word : (ℕ → ℕ) → ℕ → ℕ → List ℕ
encoded_word images m v = encoded_bytes images m (bytes_of m v)

-- Byte b at place k of a word with both nibbles encoded, by the images of nibbles 2 k and 2 k + 1.
abbrev pub encoded_byte : (ℕ → ℕ) → ℕ → ℕ → ℕ
encoded_byte images k b = pack (images (16 * (2 * k) + b / 16)) (images (16 * (2 * k + 1) + b % 16))
