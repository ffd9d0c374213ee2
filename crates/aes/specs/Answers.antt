-- Document 01, "Turned down": what the two calls answer, and the block that they leave, for a key and blocks of any length.
-- Definitions only.
use Rattle.std.specs.Prelude.{List, ℕ, length}
use Rattle.answers.specs.Answers.{wants_length, and_then, if_accepted}
use Rattle.answers.specs.declared.Refusal.TheVariants.{KeyLength, BlockLength}
use Rattle.aes.specs.Cipher.{encipher_of, decipher_of}
use Rattle.answers.specs.Answer.{Answer}

-- 1 for a key not of 16 bytes, then 10 for a block in or out not of 16 bytes.
unfoldable pub answer_of : List ℕ → List ℕ → List ℕ → Answer
answer_of key from into =
    and_then (wants_length 16 (length key) KeyLength)
    (and_then (wants_length 16 (length from) BlockLength) (wants_length 16 (length into) BlockLength))

-- The block that `encipher` leaves, and the one that `decipher` leaves.
unfoldable pub enciphered : List ℕ → List ℕ → List ℕ → List ℕ
enciphered key from into = if_accepted (answer_of key from into) (encipher_of 4 key from) into

unfoldable pub deciphered : List ℕ → List ℕ → List ℕ → List ℕ
deciphered key from into = if_accepted (answer_of key from into) (decipher_of 4 key from) into
