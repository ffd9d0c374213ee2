-- The catalogue for C, which hands the matrix back through a pointer: what it leaves there, and what a host reads off it. Definitions, and the statement, which
-- is proved in proofs/laws/Entries.antt.
use Rattle.std.specs.Prelude.{◌≡◌, ℕ, ◌*◌, ◌^◌, ◌<◌, ◌≤◌, Ok, Err}
use Rattle.answers.specs.Numbers.{number_of}
use Rattle.bits.specs.Lists.{at}
use Rattle.catalogue.specs.Catalogue.{catalogue, catalogue_length, catalogue_entry, entry_answer}
use Rattle.catalogue.specs.Catalogue.{Entry}

-- What is left behind the pointer, which held `old`: the number of the matrix, and `old` in a refused call.
abbrev pub matrix_left : Entry → ℕ → ℕ
matrix_left (Ok v) old = v
matrix_left (Err why) old = old

-- Below 20,160 the call returns 0 and leaves the catalogue's number at that position; from there on it returns 14 * 2^32, "with this and every later number 0 is
-- returned", and leaves what was there.
pub record EntryTold (position old : ℕ) : Type 0 where
  pub returned : position < catalogue_length → number_of (entry_answer (catalogue_entry position)) ≡ 0
  pub left : position < catalogue_length → matrix_left (catalogue_entry position) old ≡ at catalogue position
  pub refused : catalogue_length ≤ position → number_of (entry_answer (catalogue_entry position)) ≡ 14 * 2 ^ 32
  pub kept : catalogue_length ≤ position → matrix_left (catalogue_entry position) old ≡ old

abbrev pub EntriesTold : Type 0
EntriesTold = (position old : ℕ) → EntryTold position old
