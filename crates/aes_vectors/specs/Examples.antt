-- FIPS 197, appendices C.2 and C.3, as statements: the definitions of the crate aes on keys of 6 and 8 words. The proof is in
-- proofs/laws/Examples.antt; the program runs the code on them.
use Rattle.std.specs.Prelude.{◌≡◌, List, [], ◌∷◌, ℕ, ◌*◌}
use Rattle.bits.specs.Lists.{tabulate}
use Rattle.aes.specs.Cipher.{encipher_of}

-- The examples' block 00 11 22 .. ff, and their key 00 01 02 .. of n bytes.
unfoldable pub block : List ℕ
block = tabulate 16 (λ i. 0x11 * i)

unfoldable pub key : ℕ → List ℕ
key n = tabulate n (λ i. i)

pub record Examples : Type 0 where
  pub c_2 : encipher_of 6 (key 24) block
      ≡ 0xdd ∷ 0xa9 ∷ 0x7c ∷ 0xa4 ∷ 0x86 ∷ 0x4c ∷ 0xdf ∷ 0xe0 ∷ 0x6e ∷ 0xaf ∷ 0x70 ∷ 0xa0 ∷ 0xec ∷ 0x0d ∷ 0x71 ∷ 0x91 ∷ []
  pub c_3 : encipher_of 8 (key 32) block
      ≡ 0x8e ∷ 0xa2 ∷ 0xb7 ∷ 0xca ∷ 0x51 ∷ 0x67 ∷ 0x45 ∷ 0xbf ∷ 0xea ∷ 0xfc ∷ 0x49 ∷ 0x90 ∷ 0x4b ∷ 0x49 ∷ 0x60 ∷ 0x89 ∷ []
