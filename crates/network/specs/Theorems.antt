-- What is proved of a network of any layers, for a reader to hold against document 01. Each statement is a type, and the last record
-- gathers them. Only names of this folder's definitions and of crate bits stand here.
use Rattle.std.specs.Prelude.{List, [], ◌∷◌, ◌++◌, map, ◌≡◌, ℕ, suc, ◌+◌, ◌*◌, ◌≤◌, ◌<◌, eqb, length, take, drop}
use Rattle.bits.specs.Bytes.{Bytes, Block}
use Rattle.bits.specs.Counts.{chosen}
use Rattle.bits.specs.Encodings.{decode, Permutation}
use Rattle.bits.specs.Lists.{concat}
use Rattle.bits.specs.Nibbles.{nibble}
use Rattle.network.specs.Due.{Values, Due, held, blank, values_of, left_by, standing_due, area_due, closed, encoded, decoded}
use Rattle.network.specs.Lookups.{State, Shape, state_at, zero_area, lookup_in, lookup_at, walked}
use Rattle.network.specs.Numbers.{Numbers, start_numbers, numbers_after}
use Rattle.network.specs.Order.{GoodWidth, sum_place, place, added}
use Rattle.network.specs.Read.{read_in, lookup_from, entry_bytes}
use Rattle.network.specs.Rule.{under, label_of, labels, first_result, rule_at}
use Rattle.network.specs.Sizes.{size_of, lookups_in, bytes_in, results_in, size_in_of, offset_in}
use Rattle.network.specs.Tables.{Layer, widths_of, shapes_of, AllGood, table_at}
use Rattle.network.specs.declared.EntryPlace.{EntryPlace}

-- E gives a permutation for every number.
abbrev pub Permutations : (ℕ → List ℕ) → Type 0
Permutations E = (n : ℕ) → Permutation (E n)

-- ---- THE ENCODED NETWORK
-- One lookup over its table takes the state in which each place holds what is due after k lookups to that after k + 1. This holds for any
-- good layers, any permutations, any numbers and any plain bytes that they start from.
abbrev pub OneLookup : Type 0
OneLookup =
    (E : ℕ → List ℕ) → Permutations E → (Ls : List Layer) → AllGood Ls → (N : Numbers) (l : List ℕ) → Bytes l
    → (from k : ℕ) → k < lookups_in (widths_of Ls)
    → lookup_at (shapes_of Ls) k (table_at E Ls N k) (closed E Ls N l from k) ≡ closed E Ls N l from (suc k)

-- A walk over the network's tables that starts where a layer starts, with ANY 16 standing bytes s, reachable or not, and a zero area. After
-- n lookups each place holds what is due, where the plain bytes are s with the encodings of its places taken off. As are the layers
-- before the start (none, for a walk from the network's start), Bs those from there on.
abbrev pub FromAnyLayer : Type 0
FromAnyLayer =
    (E : ℕ → List ℕ) → Permutations E → (As Bs : List Layer) → AllGood Bs → (s : List ℕ) → Block s → (n : ℕ) → n ≤ lookups_in (widths_of Bs)
    → let at : ℕ = lookups_in (widths_of As) in
    let N : Numbers = numbers_after (widths_of As) start_numbers in
    walked (shapes_of (As ++ Bs)) (table_at E (As ++ Bs) start_numbers) n (state_at at s zero_area)
    ≡ closed E Bs N (decoded E N.standing s) at n

-- After the last lookup the plain bytes that the layers leave stand under the encodings of the last sums, and the area is zero.
abbrev pub AtTheEnd : Type 0
AtTheEnd =
    (E : ℕ → List ℕ) (Ls : List Layer) (N : Numbers) (l : List ℕ) (from : ℕ)
    → closed E Ls N l from (lookups_in (widths_of Ls))
    ≡ state_at (from + lookups_in (widths_of Ls)) (encoded E (numbers_after (widths_of Ls) N).standing (left_by Ls l)) zero_area

-- Place by place: a nibble with its encoding taken off is the value due, and a place with none is zero.
abbrev pub Reads : (ℕ → List ℕ) → ℕ → Due → Type 0
Reads E y (held n v) = decode (E n) y ≡ v
Reads E y blank = y ≡ 0

abbrev pub PlaceByPlace : Type 0
PlaceByPlace =
    (E : ℕ → List ℕ) → Permutations E → (Ls : List Layer) → AllGood Ls → (N : Numbers) (l : List ℕ) → Bytes l → (from k : ℕ)
    → ((q : ℕ) → q < 32 → Reads E (nibble (closed E Ls N l from k).standing q) (standing_due (values_of Ls l) (left_by Ls l) N k q))
    × ((q : ℕ) → q < 512 → Reads E (nibble (closed E Ls N l from k).area q) (area_due (values_of Ls l) N k q))

-- "The XOR of the words summed so far": how many words `added` says were added to nibble h of word w is how many of the first x XOR lookups put their result there.
abbrev pub AddedSoFar : Type 0
AddedSoFar = (m : ℕ) → GoodWidth m → (x w h : ℕ) → h < 2 * m → added m x w h ≡ length (chosen (λ y. eqb (sum_place m y) (place m w h)) x)

-- ---- THE NUMBERS OF THE ENCODINGS ARE THOSE OF THE RULE
-- The encoding of each value due is that of the last lookup below the count whose result was put at its place.
abbrev pub GoodWidths : List ℕ → Type 0
GoodWidths [] = Unit {0}
GoodWidths (m ∷ ms) = GoodWidth m × GoodWidths ms

abbrev pub RuleLabels : Type 0
RuleLabels =
    (Ds : List Values) (left : List ℕ)
    → let ms : List ℕ = map (λ (D : Values). D.width) Ds in
    GoodWidths ms → (k : ℕ) → k ≤ lookups_in ms
    → ((q : ℕ) → q < 32 → label_of (standing_due Ds left start_numbers k q) ≡ under ((labels ms k).standing q))
    × ((q : ℕ) → q < 512 → label_of (area_due Ds start_numbers k q) ≡ (labels ms k).area q)

-- And each table is the one that the rule gives.
abbrev pub RuleTables : Type 0
RuleTables =
    (E : ℕ → List ℕ) (Ls : List Layer) → AllGood Ls → (k : ℕ) → k < lookups_in (widths_of Ls)
    → table_at E Ls start_numbers k ≡ rule_at E Ls k (first_result (widths_of Ls) k) (labels (widths_of Ls) k)

-- No table uses an encoding whose number is past the last result's.
abbrev pub NumbersInRange : Type 0
NumbersInRange =
    (E E' : ℕ → List ℕ) (Ls : List Layer) → AllGood Ls → ((n : ℕ) → n < 32 + results_in (widths_of Ls) → E n ≡ E' n)
    → (k : ℕ) → table_at E Ls start_numbers k ≡ table_at E' Ls start_numbers k

-- ---- TABLES ARE PARTS OF THEIR CONCATENATION
abbrev pub TableParts : Type 0
TableParts =
    (E : ℕ → List ℕ) (Ls : List Layer) (N : Numbers)
    → let ms : List ℕ = widths_of Ls in
    let set : List ℕ = concat (lookups_in ms) (table_at E Ls N) in
    (length set ≡ bytes_in ms)
    × ((k : ℕ) → length (table_at E Ls N k) ≡ size_in_of ms k)
    × ((k : ℕ) → k < lookups_in ms → take (size_in_of ms k) (drop (offset_in ms k) set) ≡ table_at E Ls N k)

-- ---- THE PLACE READ (document 02, Ticket 2)
-- The entry at the place r lies within the table of lookup j, which begins at byte `from`. A spread entry has half 0.
pub record WithinTable (m j from : ℕ) (r : EntryPlace) : Type 0 where
  pub least : from ≤ r.offset
  pub most : r.offset + entry_bytes m j ≤ from + size_of m j
  pub half : r.half ≤ 1
  pub spread : j < 16 → r.half ≡ 0

-- Of bytes every lookup reads such an entry.
abbrev pub ReadsItsTable : Type 0
ReadsItsTable =
    (S : Shape) (j from : ℕ) (standing area : List ℕ) → Bytes standing → Bytes area → WithinTable S.width j from (read_in S j from standing area)

-- What a lookup over its table, which begins at byte `from` of a memory, puts into the area is then what stands at the place that it reads there. The memory
-- may have any length and content.
abbrev pub PutsWhatItReads : Type 0
PutsWhatItReads =
    (S : Shape) (j from : ℕ) (mem : List ℕ) (w : State) → WithinTable S.width j from (read_in S j from w.standing w.area)
    → lookup_in S j (take (size_of S.width j) (drop from mem)) w ≡ lookup_from S j mem (read_in S j from w.standing w.area) w

-- ---- All of them, proved in proofs/laws/Proved.antt.
pub record Network : Type 0 where
  pub one_lookup : OneLookup
  pub from_any_layer : FromAnyLayer
  pub at_the_end : AtTheEnd
  pub place_by_place : PlaceByPlace
  pub added_so_far : AddedSoFar
  pub rule_labels : RuleLabels
  pub rule_tables : RuleTables
  pub in_range : NumbersInRange
  pub table_parts : TableParts
  pub reads_its_table : ReadsItsTable
  pub puts_what_it_reads : PutsWhatItReads
