-- The two ciphers, and what the layout has of them: document 02, Ticket 1. A call names a cipher by a number, "0 forward, any other number inverse".
-- Definitions only.
use Rattle.std.specs.Prelude.{ℕ, zero, suc, ◌+◌, ◌-◌, ◌*◌, ◌/◌, ◌%◌}
use Rattle.layout.specs.Stages.{shifted}

-- Of what the forward and the inverse cipher have, that of the cipher c.
abbrev pub for_cipher {ℓ} : {A : Type ℓ} → ℕ → A → A → A
for_cipher zero forward inverse = forward
for_cipher (suc c) forward inverse = inverse

-- "A held walk keeps it as 0 or 1 (any other number there acts as 1, which an accepted move hands back)."
abbrev pub kept : ℕ → ℕ
kept c = for_cipher c 0 1

-- The cipher that undoes the cipher c.
abbrev pub other : ℕ → ℕ
other c = for_cipher c 1 0

-- "The inverse row shift [..] in the places of the forward ones": position p, of column p / 4 and row p % 4, reads byte 4((column − row) mod 4) + row.
unfoldable pub inv_shifted : ℕ → ℕ
inv_shifted p = 4 * ((p / 4 + (4 - p % 4)) % 4) + p % 4

-- The byte that a position of a first half or of the exit reads.
abbrev pub reads_of : ℕ → ℕ → ℕ
reads_of c = for_cipher c shifted inv_shifted
