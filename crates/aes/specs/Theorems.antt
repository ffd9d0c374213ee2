-- What is proved of the cipher, as statements. The proofs are in proofs/laws.
use Rattle.std.specs.Prelude.{◌≡◌, List, ℕ, length}
use Rattle.bits.specs.Bytes.{Bytes, Block}
use Rattle.aes.specs.Cipher.{Cipher, InvCipher, encipher_of, decipher_of}
use Rattle.aes.specs.Answers.{answer_of, enciphered, deciphered}
use Rattle.answers.specs.Answer.{Accepted}

-- Of any number of rounds, over any round keys that are bytes: the cipher and the inverse cipher of a block are blocks, and each
-- undoes the other.
abbrev pub CipherBlock : Type 0
CipherBlock = (w : List ℕ) → Bytes w → (nr : ℕ) (s : List ℕ) → Block s → Block (Cipher nr w s)

abbrev pub InvCipherBlock : Type 0
InvCipherBlock = (w : List ℕ) → Bytes w → (nr : ℕ) (s : List ℕ) → Block s → Block (InvCipher nr w s)

abbrev pub InvCipherCipher : Type 0
InvCipherCipher = (w : List ℕ) → Bytes w → (nr : ℕ) (s : List ℕ) → Block s → InvCipher nr w (Cipher nr w s) ≡ s

abbrev pub CipherInvCipher : Type 0
CipherInvCipher = (w : List ℕ) → Bytes w → (nr : ℕ) (s : List ℕ) → Block s → Cipher nr w (InvCipher nr w s) ≡ s

-- With a key of nk words: deciphering undoes enciphering, and the other way round.
abbrev pub DecipherEncipher : Type 0
DecipherEncipher = (nk : ℕ) (key s : List ℕ) → Bytes key → Block s → decipher_of nk key (encipher_of nk key s) ≡ s

abbrev pub EncipherDecipher : Type 0
EncipherDecipher = (nk : ℕ) (key s : List ℕ) → Bytes key → Block s → encipher_of nk key (decipher_of nk key s) ≡ s

-- Of the calls: the block that an accepted `encipher` leaves, given to `decipher` under the same key with a block of 16 bytes to
-- write, gives the block again; and the other way round.
abbrev pub ThereAndBack : Type 0
ThereAndBack =
    (key from into again : List ℕ) → Bytes key → Bytes from → answer_of key from into ≡ Accepted → length again ≡ 16
    → deciphered key (enciphered key from into) again ≡ from

abbrev pub BackAndThere : Type 0
BackAndThere =
    (key from into again : List ℕ) → Bytes key → Bytes from → answer_of key from into ≡ Accepted → length again ≡ 16
    → enciphered key (deciphered key from into) again ≡ from
