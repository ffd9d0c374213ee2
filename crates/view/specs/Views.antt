-- A view of a bundle (document 01, "The bundle"): "the lent bytes together with the five starts", and what it serves. Definitions only;
-- sections and parts are those of bundle's Format.antt.
use Rattle.std.specs.Prelude.{Bool, true, false, ◌||◌, List, [], ℕ, ◌+◌, eqb, ltb, length, take, drop}
use Rattle.std.specs.Borrow.{Bor}
use Rattle.answers.specs.Answers.{if_accepted}
use Rattle.bits.specs.Lists.{part_of}
use Rattle.bundle.specs.Format.{part_size, section_length, offset, frame, encoding_part, byte_matrix_part, column_matrix_part, input_matrix_part, output_matrix_part}
use Rattle.view.specs.declared.View.{View}
use Rattle.view.specs.declared.part.Part.{Part}
use Rattle.view.specs.declared.part.Part.TheVariants.{Encoding, ByteMatrix, ColumnMatrix, InputMatrix, OutputMatrix}
use Rattle.view.specs.declared.starts.Starts.{Starts}

-- ---- starts
-- Where section s starts: the offset of its pair; "over a bundle with cause 2 or 3 its starts are 0".
unfoldable pub start_of : ℕ → List ℕ → ℕ → ℕ
start_of nr l s = if_accepted (frame nr l) (offset l s) 0

unfoldable pub starts_of : ℕ → List ℕ → Starts
starts_of nr l = record {
  encodings = start_of nr l 0;
  bytes = start_of nr l 1;
  columns = start_of nr l 2;
  input = start_of nr l 3;
  output = start_of nr l 4;
}

-- ---- parts where the starts are known
abbrev pub empty_when : Bool → List ℕ → List ℕ
empty_when true s = []
empty_when false s = s

-- Section s where it starts at byte a; empty where a is 0, at which no section starts, or where it would end behind the bundle.
unfoldable pub section_from : ℕ → List ℕ → ℕ → ℕ → List ℕ
section_from nr l s a =
    empty_when (eqb a 0 || ltb (length l) (a + section_length nr s)) (take (section_length nr s) (drop a l))

-- Part n of it.
unfoldable pub numbered_from : ℕ → List ℕ → ℕ → ℕ → ℕ → List ℕ
numbered_from nr l s a n = part_of (part_size s) (section_from nr l s a) n

abbrev pub part_from : ℕ → List ℕ → Starts → Part → List ℕ
part_from nr l t (Encoding n) = numbered_from nr l 0 t.encodings n
part_from nr l t (ByteMatrix n) = numbered_from nr l 1 t.bytes n
part_from nr l t (ColumnMatrix n) = numbered_from nr l 2 t.columns n
part_from nr l t InputMatrix = numbered_from nr l 3 t.input 0
part_from nr l t OutputMatrix = numbered_from nr l 4 t.output 0

-- ---- views
-- The view of a lent bundle.
unfoldable pub view_of : Bor (List ℕ) → View
view_of b =
    let t = starts_of 10 b.now in
    record {
      bundle = b;
      encodings = t.encodings;
      bytes = t.bytes;
      columns = t.columns;
      input = t.input;
      output = t.output;
    }

abbrev pub starts_in : View → Starts
starts_in v = record {
  encodings = v.encodings;
  bytes = v.bytes;
  columns = v.columns;
  input = v.input;
  output = v.output;
}

-- What any view serves.
abbrev pub served_by : View → Part → List ℕ
served_by v p = part_from 10 v.bundle.now (starts_in v) p

-- What a bundle has.
abbrev pub part_in : ℕ → List ℕ → Part → List ℕ
part_in nr l (Encoding n) = encoding_part nr l n
part_in nr l (ByteMatrix n) = byte_matrix_part nr l n
part_in nr l (ColumnMatrix n) = column_matrix_part nr l n
part_in nr l InputMatrix = input_matrix_part nr l
part_in nr l OutputMatrix = output_matrix_part nr l
