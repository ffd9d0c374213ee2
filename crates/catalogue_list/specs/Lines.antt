-- What the catalogue's program writes: document 02, Ticket 4, "A program writes them in that order as 4 lowercase hex digits a line". Definitions, and the
-- statement, which is proved in proofs/laws/Lines.antt.
use Rattle.std.specs.Prelude.{List, [], ◌∷◌, ◌≡◌, ℕ, ◌*◌, ◌<◌, length}
use Rattle.bits.specs.Lists.{at, concat, part_of}
use Rattle.catalogue.specs.Catalogue.{rows_of_number, side, catalogue, catalogue_length}
use Rattle.streams.specs.Digits.{hex_digit_ascii}
use Rattle.streams.specs.Lines.{matrix_line, matrix_room}

-- The lines of a list of numbers, in its order.
unfoldable pub lines_of : List ℕ → List ℕ
lines_of l = concat (length l) (λ p. matrix_line (at l p))

-- Room in the code: for all lines of the catalogue.
abbrev pub list_bytes : ℕ
list_bytes = catalogue_length * matrix_room

-- The text is 20,160 lines of 5 bytes. Line p is the matrix at position p of the catalogue: a digit for each row, row 0 first, and a newline, 10 in ASCII.
pub record LinesOfCatalogue : Type 0 where
  pub long : length (lines_of catalogue) ≡ 100800
  pub line : (p : ℕ) → p < 20160 → let m = rows_of_number side (at catalogue p) in
      part_of matrix_room (lines_of catalogue) p ≡ hex_digit_ascii (at m 0) ∷ hex_digit_ascii (at m 1) ∷ hex_digit_ascii (at m 2) ∷ hex_digit_ascii (at m 3) ∷ 10 ∷ []
