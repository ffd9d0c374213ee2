-- The lines that the programs write, as lists of bytes: document 01, "Programs"; document 02, Ticket 4. The numbers are those of crate answers. Definitions only.
use Rattle.std.specs.Prelude.{cond, List, [], ◌∷◌, ◌++◌, ℕ, zero, suc, ◌+◌, ◌/◌, ◌%◌, ltb}
use Rattle.answers.specs.Numbers.{cause_of, second_of}
use Rattle.answers.specs.declared.Refusal.{Refusal}
use Rattle.bits.specs.Lists.{tabulate}
use Rattle.bits.specs.Nibbles.{nibble}
use Rattle.streams.specs.Digits.{hex_digit_ascii, last_digits}
use Rattle.answers.specs.Answer.{Answer, Accepted, Refused}

-- ---- numbers and blocks as text
-- The decimal digits of n, the most significant first, with no 0 in front of another digit. `most` bounds their number, and n + 1 is enough.
unfoldable pub spelled : ℕ → ℕ → List ℕ
spelled zero n = []
spelled (suc most) n = cond (ltb n 10) (hex_digit_ascii n ∷ []) (spelled most (n / 10) ++ (hex_digit_ascii (n % 10) ∷ []))

unfoldable pub decimal : ℕ → List ℕ
decimal n = spelled (suc n) n

-- The nibbles of a block, "32 lowercase hex digits": the high one of a byte first.
abbrev pub hex_digit : List ℕ → ℕ → ℕ
hex_digit block q = hex_digit_ascii (nibble block q)

unfoldable pub hex_digits : List ℕ → List ℕ
hex_digits block = tabulate 32 (hex_digit block)

-- ---- the lines. The bytes of `refused `, a space and a newline, in ASCII.
abbrev pub word : List ℕ
word = 114 ∷ 101 ∷ 102 ∷ 117 ∷ 115 ∷ 101 ∷ 100 ∷ 32 ∷ []

abbrev pub space : List ℕ
space = 32 ∷ []

abbrev pub newline : List ℕ
newline = 10 ∷ []

-- `refused N`, the number of the cause.
unfoldable pub cause_text : Refusal → List ℕ
cause_text r = word ++ decimal (cause_of r)

-- The walker: "`refused 10` .. or `refused 9` .. and a newline".
unfoldable pub cause_line : Refusal → List ℕ
cause_line r = cause_text r ++ newline

-- The maker: "`refused N I` and a newline (cause, then its second number)".
unfoldable pub refusal_line : Refusal → List ℕ
refusal_line r = cause_text r ++ space ++ decimal (second_of r) ++ newline

-- The walker: "it prints 32 lowercase hex digits and a newline".
unfoldable pub answer_line : List ℕ → List ℕ
answer_line block = hex_digits block ++ newline

-- The catalogue's program: "4 lowercase hex digits a line" (document 02, Ticket 4), the most significant first.
abbrev pub matrix_digits : ℕ
matrix_digits = 4

unfoldable pub matrix_line : ℕ → List ℕ
matrix_line v = last_digits 16 matrix_digits v ++ newline

-- What a program writes by an answer: the text where it is accepted, else the line of the refusal.
abbrev pub or_line : Answer → (Refusal → List ℕ) → List ℕ → List ℕ
or_line Accepted line text = text
or_line (Refused r) line text = line r

-- ---- room in the code: for a number of 32 bits, for `refused N`, for every line of the maker and the walker, and for one of the catalogue
abbrev pub number_room : ℕ
number_room = 10

abbrev pub cause_room : ℕ
cause_room = 18

abbrev pub line_room : ℕ
line_room = 33

abbrev pub matrix_room : ℕ
matrix_room = matrix_digits + 1
