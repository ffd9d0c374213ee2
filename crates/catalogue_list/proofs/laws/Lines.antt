-- Laws, not definitions: of the loop that puts the lines into lent memory, and the statement of specs/Lines.antt.
-- Assumes nothing.
use mathlib.Core.List.{List, [], ◌∷◌}
use mathlib.Core.Path.{◌≡◌, refl, sym, ap, subst, ◌∙◌}
use Prim.Native.Nat.{ℕ, ◌+◌, ◌*◌, ◌-◌, ◌/◌, ◌%◌, ◌<◌, ◌≤◌}
use native.Mathlib.Omega.{arith}
use borrow.Rule.Slice.PartMut.{put_mid}
use lib.ListN.{length}
use Rattle.bits.specs.Groups.{group}
use Rattle.bits.specs.Lists.{at, concat, part_of}
use Rattle.bits.proofs.laws.Lists.{length_concat, cut}
use Rattle.bits.proofs.laws.Offsets.{concat_row}
use Rattle.bits.proofs.laws.Parts.{Parts, part_lent, parts_more, parts_all}
use Rattle.catalogue.specs.Catalogue.{rows_of_number, side, catalogue, catalogue_length, catalogue_entry}
use Rattle.catalogue.proofs.laws.Numbered.{row_at}
use Rattle.catalogue.proofs.laws.Proved.{entry_given, given_number, catalogued}
use Rattle.streams.specs.Digits.{hex_digit_ascii}
use Rattle.streams.specs.Lines.{matrix_line, matrix_room}
use Rattle.streams.specs.Written.{Written}
use Rattle.streams.proofs.laws.Written.{written_whole}
use Rattle.catalogue_list.specs.Lines.{lines_of, list_bytes, LinesOfCatalogue}
use Rattle.catalogue.specs.Catalogue.{Entry}
use Rattle.std.specs.Prelude.{Ok, IsOk}

unfoldable pub line_at : ℕ → List ℕ
line_at p = matrix_line (at catalogue p)

line_long : (v : ℕ) → length (matrix_line v) ≡ matrix_room
unfolding matrix_line
line_long v = refl

-- ---- the statement
line_rows : (v : ℕ) → let m = rows_of_number side v in
    matrix_line v ≡ hex_digit_ascii (at m 0) ∷ hex_digit_ascii (at m 1) ∷ hex_digit_ascii (at m 2) ∷ hex_digit_ascii (at m 3) ∷ 10 ∷ []
unfolding matrix_line group
line_rows v =
    let m = rows_of_number side v in
    let a : v / 16 / 16 / 16 % 16 ≡ at m 0 = omega (arith, row_at side v 0 (omega arith)) in
    let b : v / 16 / 16 % 16 ≡ at m 1 = omega (arith, row_at side v 1 (omega arith)) in
    let c : v / 16 % 16 ≡ at m 2 = omega (arith, row_at side v 2 (omega arith)) in
    let d : v % 16 ≡ at m 3 = omega (arith, row_at side v 3 (omega arith)) in
    cc

text_long : length (lines_of catalogue) ≡ catalogue_length * matrix_room
unfolding lines_of line_at
text_long = length_concat matrix_room line_at (length catalogue) (λ p h. line_long (at catalogue p)) ∙ ap (λ (n : ℕ). n * matrix_room) catalogued.calls.long

text_line : (p : ℕ) → p < catalogue_length → part_of matrix_room (lines_of catalogue) p ≡ line_at p
unfolding lines_of line_at part_of
text_line p h = concat_row matrix_room line_at (length catalogue) (λ p h. line_long (at catalogue p)) p (omega (arith, catalogued.calls.long))

pub lines_of_catalogue : LinesOfCatalogue
unfolding line_at
lines_of_catalogue = record { long = text_long; line = λ p h. text_line p h ∙ line_rows (at catalogue p) }

-- ---- the loop. Its invariant is `Parts` of bits: the first p parts of 5 bytes hold the lines of the first p entries. The call gives v at position p.
pub given_at : {p : ℕ} {r : Entry} → r ≡ catalogue_entry p → p < catalogue_length → IsOk r
given_at {p} e h = subst IsOk (sym (e ∙ entry_given p h)) refl

module _ {d₀ d : List ℕ} {p : ℕ} (I : Parts catalogue_length matrix_room line_at d₀ d p) where
  -- There is a part for its line, which comes back with it.
  pub lines_more : {v end : ℕ} {ys : List ℕ} → p < catalogue_length → Ok v ≡ catalogue_entry p
      → length ys ≡ length (cut d (p * matrix_room) (p * matrix_room + matrix_room))
      → Written (matrix_line v) (cut d (p * matrix_room) (p * matrix_room + matrix_room)) end ys
      → Parts catalogue_length matrix_room line_at d₀ (put_mid (p * matrix_room) (p * matrix_room + matrix_room - p * matrix_room) d ys) (p + 1)
  unfolding line_at
  lines_more {v} {end} {ys} h e l w =
      let whole : length (matrix_line v) ≡ length ys = line_long v ∙ sym (l ∙ (part_lent I h).long) in
      parts_more I h l (written_whole w whole ∙ ap matrix_line (sym (given_number p (sym e))))

  -- Behind the last entry all lines are put.
  pub lines_all : catalogue_length ≤ p → length d₀ ≡ list_bytes → d ≡ lines_of catalogue
  unfolding lines_of line_at
  lines_all h l =
      parts_all I h l ∙ ap (λ (n : ℕ). concat n line_at) (sym catalogued.calls.long)
