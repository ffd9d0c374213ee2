-- The values due, and the closed form of the state: what stands at each place after k lookups, and under which encoding. "The value due
-- at a place is the spread word above before encoding, or the XOR of the words summed so far" (document 01, "The 3,008 look-ups").
-- Definitions only.
use Rattle.std.specs.Prelude.{cond, List, [], ◌∷◌, ℕ, suc, ◌+◌, ◌-◌, ◌*◌, ◌/◌, ◌%◌, min, ltb}
use Rattle.bits.specs.Encodings.{encode, decode}
use Rattle.bits.specs.Groups.{xor_all}
use Rattle.bits.specs.Lists.{at, tabulate}
use Rattle.bits.specs.Nibbles.{nibble, packed}
use Rattle.network.specs.Lookups.{State, state_at}
use Rattle.network.specs.Numbers.{Numbers, encoding_number, next_numbers}
use Rattle.network.specs.Order.{layer_lookups, added}
use Rattle.network.specs.Tables.{Layer}

-- The values of a layer: its width m, the 16 bytes that stand at its start, and the word of m bytes of each spread lookup. All before
-- encoding.
pub record Values : Type 0 where
  pub width : ℕ
  pub standing : List ℕ
  pub word : ℕ → List ℕ

-- Nibble h of the XOR of the words w, w + 1, .., w + d.
unfoldable pub sum : (ℕ → List ℕ) → ℕ → ℕ → ℕ → ℕ
sum word w d h = xor_all (suc d) (λ i. nibble (word (w + i)) h)

-- What a layer leaves: byte q is byte q % m of the XOR of the m words of group q / m.
unfoldable pub summed : Values → List ℕ
summed D = tabulate 16 (λ q. xor_all D.width (λ i. at (D.word (q / D.width * D.width + i)) (q % D.width)))

-- The values of layers that start from the bytes l, and the bytes that they leave.
abbrev pub values_in : Layer → List ℕ → Values
values_in L l = record { width = L.width; standing = l; word = λ p. L.word p (at l (L.source p)) }

unfoldable pub values_of : List Layer → List ℕ → List Values
values_of [] l = []
values_of (L ∷ Ls) l = values_in L l ∷ values_of Ls (summed (values_in L l))

unfoldable pub left_by : List Layer → List ℕ → List ℕ
left_by [] l = l
left_by (L ∷ Ls) l = left_by Ls (summed (values_in L l))

-- What is due at a place: a value, under the encoding of a given number; or nothing. "Half-bytes of the area not yet written in the
-- running stage or half are zero and have no list."
pub data Due : Type 0 where
  held : ℕ → ℕ → Due
  blank : Due

-- The nibble that stands at a place.
abbrev pub shown : (ℕ → List ℕ) → Due → ℕ
shown E (held n v) = encode (E n) v
shown E blank = 0

-- At nibble h of word w of the area, j lookups into a layer whose results are numbered from `first` on.
unfoldable pub due_in : Values → ℕ → ℕ → ℕ → ℕ → Due
due_in D first j w h =
    let d = added D.width (j - 16) w h in
    cond (ltb w (min j 16)) (held (encoding_number D.width first w d h) (sum D.word w d h)) blank

-- At standing nibble q, and at nibble q of the area, k lookups into layers of the given values, which leave the bytes `left`.
unfoldable pub standing_due : List Values → List ℕ → Numbers → ℕ → ℕ → Due
standing_due [] left N k q = held (N.standing q) (nibble left q)
standing_due (D ∷ Ds) left N k q =
    cond (ltb k (layer_lookups D.width)) (held (N.standing q) (nibble D.standing q))
    (standing_due Ds left (next_numbers D.width N) (k - layer_lookups D.width) q)

unfoldable pub area_due : List Values → Numbers → ℕ → ℕ → Due
area_due [] N k q = blank
area_due (D ∷ Ds) N k q =
    cond (ltb k (layer_lookups D.width)) (due_in D N.first k (q / (2 * D.width)) (q % (2 * D.width)))
    (area_due Ds (next_numbers D.width N) (k - layer_lookups D.width) q)

-- The state in which each place holds what is due, k lookups into layers that start at the count `from`.
unfoldable pub due_state : (ℕ → List ℕ) → List Values → List ℕ → Numbers → ℕ → ℕ → State
due_state E Ds left N from k =
    state_at (from + k) (packed 16 (λ q. shown E (standing_due Ds left N k q))) (packed 256 (λ q. shown E (area_due Ds N k q)))

-- The closed form: the state k lookups into layers whose plain bytes at the start are l.
abbrev pub closed : (ℕ → List ℕ) → List Layer → Numbers → List ℕ → ℕ → ℕ → State
closed E Ls N l from k = due_state E (values_of Ls l) (left_by Ls l) N from k

-- 16 bytes with each nibble under its encoding, and the way back.
unfoldable pub encoded : (ℕ → List ℕ) → (ℕ → ℕ) → List ℕ → List ℕ
encoded E number l = packed 16 (λ q. encode (E (number q)) (nibble l q))

unfoldable pub decoded : (ℕ → List ℕ) → (ℕ → ℕ) → List ℕ → List ℕ
decoded E number s = packed 16 (λ q. decode (E (number q)) (nibble s q))
