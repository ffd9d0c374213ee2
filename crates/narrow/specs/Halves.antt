-- A word of two halves: a row of the matrix that is reduced is the high half, the row of the matrix that becomes the inverse the low half.
-- Definitions only, which the ghost members of the row cite.
use Rattle.std.specs.Prelude.{ℕ, ◌/◌, ◌%◌, ◌^◌}

-- The halves of a word.
abbrev pub left : ℕ → ℕ
left x = x / 2 ^ 32

abbrev pub right : ℕ → ℕ
right x = x % 2 ^ 32
