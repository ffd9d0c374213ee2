-- FIPS 197, section 5.2: the key expansion, for a key of nk words, nk = 4, 6 or 8. A word is the list of its 4 bytes, and words are
-- written one after the other. Definitions only.
use Rattle.std.specs.Prelude.{ℕ, zero, suc, ◌+◌, ◌-◌, ◌*◌, ◌/◌, ◌%◌, cond, ◌&&◌, List, [], ◌∷◌, ◌++◌, eqb, ltb, take, drop}
use Rattle.std.specs.Int.Bits.{bit_xor}
use Rattle.std.proofs.Math.Seq.{paste}
use Rattle.bits.specs.Lists.{at, tabulate}
use Rattle.field.specs.Field.{xtime}
use Rattle.field.specs.Sbox.{sbox_of}

-- The first byte of Rcon[j]: x^(j-1), for j from 1 on.
unfoldable pub rcon : ℕ → ℕ
rcon zero = 0
rcon (suc zero) = 1
rcon (suc (suc j)) = xtime (rcon (suc j))

-- The round constant Rcon[j], whose other bytes are 0.
unfoldable pub Rcon : ℕ → List ℕ
Rcon j = rcon j ∷ 0 ∷ 0 ∷ 0 ∷ []

-- Word i of a list of words.
unfoldable pub word_at : List ℕ → ℕ → List ℕ
word_at w i = tabulate 4 (λ q. at w (4 * i + q))

-- RotWord [a0, a1, a2, a3] = [a1, a2, a3, a0].
unfoldable pub RotWord : List ℕ → List ℕ
RotWord t = tabulate 4 (λ q. at t ((q + 1) % 4))

-- SubWord: the S-box on each byte.
unfoldable pub SubWord : List ℕ → List ℕ
SubWord t = tabulate 4 (λ q. sbox_of (at t q))

-- The xor of two words.
unfoldable pub xor_word : List ℕ → List ℕ → List ℕ
xor_word a b = tabulate 4 (λ q. bit_xor (at a q) (at b q))

-- What becomes of temp = w[i-1]: SubWord(RotWord(temp)) xor Rcon[i/nk] where nk divides i; else, where nk > 6 and i mod nk = 4,
-- SubWord(temp); else temp itself.
unfoldable pub temp : ℕ → ℕ → List ℕ → List ℕ
temp nk i t =
    cond (eqb (i % nk) 0) (xor_word (SubWord (RotWord t)) (Rcon (i / nk)))
    (cond (ltb 6 nk && eqb (i % nk) 4) (SubWord t) t)

-- w[i] = w[i-nk] xor temp, from the words before it.
unfoldable pub next_word_of : ℕ → ℕ → List ℕ → List ℕ
next_word_of nk i w = xor_word (word_at w (i - nk)) (temp nk i (word_at w (i - 1)))

-- The key, which is words 0 to nk - 1, and n words more.
unfoldable pub expand : ℕ → List ℕ → ℕ → List ℕ
expand nk key zero = key
expand nk key (suc n) = let w : List ℕ = expand nk key n in w ++ next_word_of nk (nk + n) w

-- Table 3: Nr = 10, 12 or 14 for nk = 4, 6 or 8.
abbrev pub rounds_of : ℕ → ℕ
rounds_of nk = nk + 6

-- The round keys: 4 (Nr + 1) words.
unfoldable pub KeyExpansion : ℕ → List ℕ → List ℕ
KeyExpansion nk key = expand nk key (4 * (rounds_of nk + 1) - nk)

-- Round key r: words 4r to 4r + 3.
unfoldable pub key_of : List ℕ → ℕ → List ℕ
key_of w r = take 16 (drop (16 * r) w)

-- A word x, written over word i of w.
abbrev pub put_word : List ℕ → ℕ → List ℕ → List ℕ
put_word w i x = paste w (4 * i) x 4
