-- FIPS 197, sections 3.4, 5.1 and 5.3: the state and its transformations. A state is the list of its 16 bytes. Definitions only.
use Rattle.std.specs.Prelude.{ℕ, ◌+◌, ◌-◌, ◌*◌, ◌/◌, ◌%◌, List, [], ◌∷◌}
use Rattle.std.specs.Int.Bits.{bit_xor}
use Rattle.bits.specs.Lists.{at, tabulate}
use Rattle.bits.specs.Groups.{xor_all}
use Rattle.field.specs.Field.{mul}
use Rattle.field.specs.Sbox.{sbox_of, inv_sbox_of}

-- 3.4: the byte in row r and column c, s[r, c] = in[r + 4c].
abbrev pub cell : List ℕ → ℕ → ℕ → ℕ
cell s r c = at s (r + 4 * c)

-- The state with f r c in row r and column c.
unfoldable pub state : (ℕ → ℕ → ℕ) → List ℕ
state f = tabulate 16 (λ i. f (i % 4) (i / 4))

-- 5.1.1: the S-box on each byte.
unfoldable pub SubBytes : List ℕ → List ℕ
SubBytes s = state (λ r c. sbox_of (cell s r c))

-- 5.1.2: row r is turned to the left by r places.
unfoldable pub ShiftRows : List ℕ → List ℕ
ShiftRows s = state (λ r c. cell s r ((c + r) % 4))

-- 5.1.3: the matrix of MixColumns, row after row.
unfoldable pub mix_rows : List ℕ
mix_rows =
    2 ∷ 3 ∷ 1 ∷ 1
    ∷ 1 ∷ 2 ∷ 3 ∷ 1
    ∷ 1 ∷ 1 ∷ 2 ∷ 3
    ∷ 3 ∷ 1 ∷ 1 ∷ 2 ∷ []

-- 5.3.3: the matrix of InvMixColumns, row after row.
unfoldable pub inv_mix_rows : List ℕ
inv_mix_rows =
    0x0e ∷ 0x0b ∷ 0x0d ∷ 0x09
    ∷ 0x09 ∷ 0x0e ∷ 0x0b ∷ 0x0d
    ∷ 0x0d ∷ 0x09 ∷ 0x0e ∷ 0x0b
    ∷ 0x0b ∷ 0x0d ∷ 0x09 ∷ 0x0e ∷ []

-- The element in row r and column q of such a matrix.
abbrev pub entry : List ℕ → ℕ → ℕ → ℕ
entry m r q = at m (4 * r + q)

-- Each column of the state, as a vector, times the matrix m: row r of m by column c of the state.
unfoldable pub mix_by : List ℕ → List ℕ → List ℕ
mix_by m s = state (λ r c. xor_all 4 (λ q. mul (entry m r q) (cell s q c)))

-- 5.1.3.
unfoldable pub MixColumns : List ℕ → List ℕ
MixColumns s = mix_by mix_rows s

-- 5.1.4: the xor of the state and a round key, byte by byte.
unfoldable pub AddRoundKey : List ℕ → List ℕ → List ℕ
AddRoundKey s k = state (λ r c. bit_xor (cell s r c) (cell k r c))

-- 5.3.1: row r is turned to the right by r places.
unfoldable pub InvShiftRows : List ℕ → List ℕ
InvShiftRows s = state (λ r c. cell s r ((c + (4 - r)) % 4))

-- 5.3.2: the inverse S-box on each byte.
unfoldable pub InvSubBytes : List ℕ → List ℕ
InvSubBytes s = state (λ r c. inv_sbox_of (cell s r c))

-- 5.3.3.
unfoldable pub InvMixColumns : List ℕ → List ℕ
InvMixColumns s = mix_by inv_mix_rows s
