-- A linear map of a byte, given by eight words, one for each of the byte's bits, and how the code works it out by the
-- byte's two nibbles. Definitions only.
use Rattle.std.specs.Prelude.{cond, List, ℕ, ◌+◌, ◌-◌, ◌*◌, ◌/◌, ◌%◌, ◌^◌, ltb}
use Rattle.std.specs.Int.Bits.{bit_xor}
use Rattle.bits.specs.Groups.{xor_all}
use Rattle.matrices.specs.Rows.{row_at}

-- The xor of f i over the bits i that the byte y has.
unfoldable pub combined : (ℕ → ℕ) → ℕ → ℕ
combined f y = xor_all 8 (λ i. (y / 2 ^ i % 2) * f i)

-- The bytes with one nibble: the low nibbles 0 to 15, then the high ones.
unfoldable pub nibble_byte : ℕ → ℕ
nibble_byte r = cond (ltb r 16) r ((r - 16) * 16)

-- The word of the byte y, where `words` has a row for each byte with one nibble.
abbrev pub word_in : List ℕ → ℕ → ℕ
word_in words y = bit_xor (row_at words (y % 16)) (row_at words (16 + y / 16))
