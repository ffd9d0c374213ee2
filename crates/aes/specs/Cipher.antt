-- FIPS 197, sections 5.1 and 5.3: the cipher and the inverse cipher, of nr rounds over the round keys w. Definitions only.
use Rattle.std.specs.Prelude.{ℕ, zero, suc, ◌-◌, List}
use Rattle.round.specs.State.{SubBytes, ShiftRows, MixColumns, AddRoundKey, InvSubBytes, InvShiftRows, InvMixColumns}
use Rattle.round.specs.Key.{key_of, KeyExpansion, rounds_of}

-- Rounds 1 to r, none of them the last one.
unfoldable pub rounds : List ℕ → ℕ → List ℕ → List ℕ
rounds w zero s = s
rounds w (suc r) s = AddRoundKey (MixColumns (ShiftRows (SubBytes (rounds w r s)))) (key_of w (suc r))

-- 5.1, Cipher: round key 0, rounds 1 to nr - 1, and a last round without MixColumns.
unfoldable pub Cipher : ℕ → List ℕ → List ℕ → List ℕ
Cipher nr w s =
    AddRoundKey (ShiftRows (SubBytes (rounds w (nr - 1) (AddRoundKey s (key_of w 0))))) (key_of w nr)

-- The first r of the rounds of 5.3, which count down, "for round = Nr−1 step −1 downto 1": the one behind r others takes round key nr − (r + 1).
unfoldable pub inv_rounds : ℕ → List ℕ → ℕ → List ℕ → List ℕ
inv_rounds nr w zero s = s
inv_rounds nr w (suc r) s = InvMixColumns (AddRoundKey (InvSubBytes (InvShiftRows (inv_rounds nr w r s))) (key_of w (nr - suc r)))

-- 5.3, InvCipher: round key nr, rounds nr - 1 down to 1, and a last round without InvMixColumns.
unfoldable pub InvCipher : ℕ → List ℕ → List ℕ → List ℕ
InvCipher nr w s =
    AddRoundKey (InvSubBytes (InvShiftRows (inv_rounds nr w (nr - 1) (AddRoundKey s (key_of w nr))))) (key_of w 0)

-- AES with a key of nk words, and its inverse.
unfoldable pub encipher_of : ℕ → List ℕ → List ℕ → List ℕ
encipher_of nk key s = Cipher (rounds_of nk) (KeyExpansion nk key) s

unfoldable pub decipher_of : ℕ → List ℕ → List ℕ → List ℕ
decipher_of nk key s = InvCipher (rounds_of nk) (KeyExpansion nk key) s
