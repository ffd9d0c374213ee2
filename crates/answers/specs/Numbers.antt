-- The documents' numbers for each answer (document 01, table "Turned down"; from 13 on document 02), and both in one number for C. Definitions, and the
-- statement that a host can read both off again.
use Rattle.std.specs.Prelude.{◌≡◌, ℕ, ◌+◌, ◌*◌, ◌/◌, ◌%◌, ◌<◌}
use Rattle.answers.specs.declared.Refusal.{Refusal}
use Rattle.answers.specs.declared.Refusal.TheVariants.{KeyLength, BundleLength, Pair, Encoding, ByteMatrix, ColumnMatrix, InputMatrix}
use Rattle.answers.specs.declared.Refusal.TheVariants.{OutputMatrix, TableNumber, SetLength, BlockLength, Stop, Unfinished, RecordLength, CataloguePosition}
use Rattle.answers.specs.Answer.{Answer, Accepted, Refused}

-- The number of the cause ("No.").
abbrev pub cause_of : Refusal → ℕ
-- "key not 16 bytes"
cause_of KeyLength = 1
-- "bundle length"
cause_of BundleLength = 2
-- "pair: length, order or end"
cause_of (Pair i) = 3
-- "list no permutation"
cause_of (Encoding n) = 4
-- "byte matrix has no inverse", or one of its blocks has none (document 02, Ticket 5)
cause_of (ByteMatrix n) = 5
-- "column matrix has none", or one of its blocks
cause_of (ColumnMatrix n) = 6
-- "block matrix has none"
cause_of InputMatrix = 7
cause_of OutputMatrix = 7
-- "table number above 3,007"
cause_of TableNumber = 8
-- "set or single table of wrong length"
cause_of SetLength = 9
-- "block not 16 bytes, in or out"
cause_of BlockLength = 10
-- "stop above 3,008 or below the count"
cause_of Stop = 11
-- "answer fetched at a count other than 3,008"
cause_of Unfinished = 12
-- "A record of a length other than 15,040 gets number 13" (document 02, Ticket 3).
cause_of RecordLength = 13
-- "A position of 20,160 or more gets number 14" (document 02, Ticket 4).
cause_of CataloguePosition = 14

-- The number "returned with it": "first bad pair, 0–4", "first such list", "first such number", for block matrices "0 input or both, 1 output
-- only", and else 0.
abbrev pub second_of : Refusal → ℕ
second_of KeyLength = 0
second_of BundleLength = 0
second_of (Pair i) = i
second_of (Encoding n) = n
second_of (ByteMatrix n) = n
second_of (ColumnMatrix n) = n
second_of InputMatrix = 0
second_of OutputMatrix = 1
second_of TableNumber = 0
second_of SetLength = 0
second_of BlockLength = 0
second_of Stop = 0
second_of Unfinished = 0
-- "With this and every later number 0 is returned" (document 02, Ticket 3).
second_of RecordLength = 0
second_of CataloguePosition = 0

-- Both of an answer: 0 where the call is accepted.
abbrev pub cause_in : Answer → ℕ
cause_in Accepted = 0
cause_in (Refused r) = cause_of r

abbrev pub second_in : Answer → ℕ
second_in Accepted = 0
second_in (Refused r) = second_of r

-- ---- one number for C: the cause times 2^32, and the second number added
abbrev pub joined : ℕ → ℕ → ℕ
joined cause second = cause * 4294967296 + second

abbrev pub number_of : Answer → ℕ
number_of a = joined (cause_in a) (second_in a)

-- A host reads off both, where the second has 32 bits; and the number is 0 for an accepted call only.
pub record ReadOff (a : Answer) : Type 0 where
  pub cause_is : number_of a / 4294967296 ≡ cause_in a
  pub second_is : number_of a % 4294967296 ≡ second_in a
  pub accepted : number_of a ≡ 0 → a ≡ Accepted

abbrev pub Readable : Type 0
Readable = (a : Answer) → second_in a < 4294967296 → ReadOff a
