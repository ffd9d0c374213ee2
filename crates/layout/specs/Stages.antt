-- The layers of the cipher over its number of rounds nr (10 for AES-128): their order, widths and sources, and the sizes that follow; and
-- document 01's table of stages, by ranges of the lookup's number. Definitions only.
use Rattle.std.specs.Prelude.{cond, List, [], ◌∷◌, ◌++◌, map, ℕ, zero, suc, ◌+◌, ◌-◌, ◌*◌, ◌/◌, ◌%◌, ◌≤◌, ◌<◌, ltb}
use Rattle.network.specs.Lookups.{Shape}
use Rattle.network.specs.Numbers.{Numbers, sum_number}
use Rattle.network.specs.Sizes.{size_of, offset_of, lookups_in, bytes_in, results_in, size_in_of, offset_in}
use Rattle.layout.specs.declared.stage.Place.{Place}
use Rattle.layout.specs.declared.stage.Stage.{Stage}
use Rattle.layout.specs.declared.stage.Stage.TheVariants.{Entry, First, Second, Exit, Beyond}

-- ---- the layers in order: the entry, the first and the second half of each round below nr, the exit
-- The halves of n rounds, from round r on.
unfoldable pub rounds : ℕ → ℕ → List Stage
rounds r zero = []
rounds r (suc n) = First r ∷ Second r ∷ rounds (suc r) n

unfoldable pub stages : ℕ → List Stage
stages nr = Entry ∷ (rounds 1 (nr - 1) ++ (Exit ∷ []))

-- A stage or half of a cipher of nr rounds: the halves are those of rounds 1 to nr - 1.
abbrev pub InRounds : ℕ → Stage → Type 0
InRounds nr Entry = 1 ≤ nr
InRounds nr (First r) = (1 ≤ r) × (r < nr)
InRounds nr (Second r) = (1 ≤ r) × (r < nr)
InRounds nr Exit = 1 ≤ nr
InRounds nr Beyond = ⊥

-- "Entry and exit: 16 spread tables of 4,096 bytes (256 words of 16 bytes)"; a half has "16 spread tables of 1,024 bytes (256 words of 4
-- bytes)".
abbrev pub width_of : Stage → ℕ
width_of Entry = 16
width_of (First r) = 4
width_of (Second r) = 4
width_of Exit = 16
width_of Beyond = 0

-- "Position p = 4c+q: read byte j = 4((c+q) mod 4)+q": the row shift of FIPS 197.
unfoldable pub shifted : ℕ → ℕ
shifted p = 4 * ((p / 4 + p % 4) % 4) + p % 4

-- Where spread lookups read. Entry and second halves read their own position; first halves and the exit read through the row shift,
-- which is a parameter.
abbrev pub source_of : (ℕ → ℕ) → Stage → ℕ → ℕ
source_of reads Entry p = p
source_of reads (First r) p = reads p
source_of reads (Second r) p = p
source_of reads Exit p = reads p
source_of reads Beyond p = p

abbrev pub shape_at : (ℕ → ℕ) → Stage → Shape
shape_at reads s = record { width = width_of s; source = source_of reads s }

unfoldable pub shapes : (ℕ → ℕ) → ℕ → List Shape
shapes reads nr = map (shape_at reads) (stages nr)

unfoldable pub widths : ℕ → List ℕ
widths nr = map width_of (stages nr)

-- ---- sizes: the lookups, the bytes of all tables, the bytes of a set, the encodings with the 32 of the input coding
unfoldable pub lookups : ℕ → ℕ
lookups nr = lookups_in (widths nr)

unfoldable pub tables_bytes : ℕ → ℕ
tables_bytes nr = bytes_in (widths nr)

-- A set is its tables and nothing else.
unfoldable pub set_bytes : ℕ → ℕ
set_bytes nr = tables_bytes nr

-- The offset that a call passes on if it made no lookup: "770,048 when it has made none in that call" (document 02, Ticket 2). It is behind all
-- tables, where no entry stands.
abbrev pub nowhere : ℕ → ℕ
nowhere nr = tables_bytes nr

unfoldable pub encodings : ℕ → ℕ
encodings nr = 32 + results_in (widths nr)

-- They for ten rounds, as the numbers that the code has; that they are these is said in Cases.antt.
abbrev pub ten_lookups : ℕ
ten_lookups = 3008

abbrev pub ten_tables_bytes : ℕ
ten_tables_bytes = 770048

abbrev pub ten_set_bytes : ℕ
ten_set_bytes = ten_tables_bytes

-- No cipher has more rounds, and no set more bytes of tables than those of as many (document 02, Ticket 14).
abbrev pub most_rounds : ℕ
most_rounds = 14

abbrev pub most_bytes_of : ℕ
most_bytes_of = 999424

-- Of table k: its bytes, and those of all tables before it.
unfoldable pub table_size : ℕ → ℕ → ℕ
table_size nr k = size_in_of (widths nr) k

unfoldable pub table_offset : ℕ → ℕ → ℕ
table_offset nr k = offset_in (widths nr) k

-- ---- document 01's table. "Which stage a look-up number belongs to is decided by these ranges": 0–495 entry; 496+224(r−1), 224 each,
-- round r; then 496 of the exit. A round's two halves have 112 each.
abbrev pub entry_lookups : ℕ
entry_lookups = 496

abbrev pub half_lookups : ℕ
half_lookups = 112

abbrev pub round_lookups : ℕ
round_lookups = 224

-- The bytes of a half's tables, two of which are a round's.
abbrev pub half_bytes : ℕ
half_bytes = 28672

-- The first lookup of a stage or half.
abbrev pub first_lookup : ℕ → Stage → ℕ
first_lookup nr Entry = 0
first_lookup nr (First r) = entry_lookups + round_lookups * (r - 1)
first_lookup nr (Second r) = entry_lookups + half_lookups + round_lookups * (r - 1)
first_lookup nr Exit = entry_lookups + round_lookups * (nr - 1)
first_lookup nr Beyond = 2 * entry_lookups + round_lookups * (nr - 1)

-- Of lookup k behind the entry and before the exit: its round, and its number there.
abbrev pub round_at : ℕ → ℕ
round_at k = (k - entry_lookups) / round_lookups + 1

abbrev pub in_round : ℕ → ℕ
in_round k = (k - entry_lookups) % round_lookups

unfoldable pub stage_of : ℕ → ℕ → Stage
stage_of nr k =
    let r = round_at k in
    cond (ltb k entry_lookups) Entry
    (cond (ltb k (first_lookup nr Exit)) (cond (ltb (in_round k) half_lookups) (First r) (Second r))
    (cond (ltb k (first_lookup nr Beyond)) Exit Beyond))

-- ---- the first byte of a stage or half, and the numbers of encodings: of its first result, and of a standing nibble
-- "First byte": 0; 126,976+57,344(r−1); 643,072 for ten rounds.
abbrev pub first_byte_of : ℕ → Stage → ℕ
first_byte_of nr Entry = 0
first_byte_of nr (First r) = 126976 + 57344 * (r - 1)
first_byte_of nr (Second r) = 155648 + 57344 * (r - 1)
first_byte_of nr Exit = 126976 + 57344 * (nr - 1)
first_byte_of nr Beyond = 253952 + 57344 * (nr - 1)

-- The results of a half, as many as the numbers of encodings that it takes.
abbrev pub half_results : ℕ
half_results = 224

-- The number of the encoding of the first result.
abbrev pub first_number : ℕ → Stage → ℕ
first_number nr Entry = 32
first_number nr (First r) = 1024 + 448 * (r - 1)
first_number nr (Second r) = 1248 + 448 * (r - 1)
first_number nr Exit = 1024 + 448 * (nr - 1)
first_number nr Beyond = 2016 + 448 * (nr - 1)

-- The number of the encoding of standing nibble q at the start of a stage or half: of the sums of the layer before.
abbrev pub after_round : ℕ → ℕ → ℕ
after_round zero q = sum_number 16 32 q
after_round (suc r) q = sum_number 4 (1248 + 448 * r) q

abbrev pub standing_number : ℕ → Stage → ℕ → ℕ
standing_number nr Entry q = q
standing_number nr (First r) q = after_round (r - 1) q
standing_number nr (Second r) q = sum_number 4 (first_number nr (First r)) q
standing_number nr Exit q = after_round (nr - 1) q
standing_number nr Beyond q = sum_number 16 (first_number nr Exit) q

unfoldable pub numbers_of : ℕ → Stage → Numbers
numbers_of nr s = record { first = first_number nr s; standing = standing_number nr s }

-- The number of lookup k within its layer.
unfoldable pub index_of : ℕ → ℕ → ℕ
index_of nr k = k - first_lookup nr (stage_of nr k)

-- What the code answers of lookup k: its stage or half, its number there, and its table's size and offset in the set.
abbrev pub place_of : ℕ → ℕ → Place
place_of nr k = record { stage = stage_of nr k; index = index_of nr k; size = table_size nr k; offset = table_offset nr k }

-- What the private functions of the code answer: lookup j of a stage or half whose tables begin at `start` and whose words have m bytes; lookup j of
-- round r, whose tables stand where they do for every number of rounds; and j lookups behind the last.
unfoldable pub place_from : Stage → ℕ → ℕ → ℕ → Place
place_from s m start j = record { stage = s; index = j; size = size_of m j; offset = start + offset_of m j }

unfoldable pub place_in_round : ℕ → ℕ → Place
place_in_round r j =
    cond (ltb j half_lookups) (place_from (First r) 4 (first_byte_of r (First r)) j) (place_from (Second r) 4 (first_byte_of r (Second r)) (j - half_lookups))

abbrev pub place_beyond : ℕ → ℕ → Place
place_beyond j offset = record { stage = Beyond; index = j; size = 0; offset = offset }
