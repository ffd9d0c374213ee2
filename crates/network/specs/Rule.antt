-- Document 01's rule of the encodings' numbers, as a machine that follows the lookups and knows nothing else. "From list 32 on, lists
-- belong to look-up results in order of use, and within one result in order of its half-bytes" ("The bundle"). The list of a place "is
-- that of the last look-up numbered below the count whose result these rules put there; a copied sum keeps its list" ("The 3,008
-- look-ups"). And the tables as this rule gives them. Definitions only.
use Rattle.std.specs.Prelude.{cond, List, [], ◌∷◌, ℕ, zero, suc, ◌+◌, ◌-◌, ◌*◌, ◌/◌, ◌%◌, eqb, ltb}
use Rattle.std.specs.Int.Bits.{bit_xor}
use Rattle.bits.specs.Encodings.{encode, decode}
use Rattle.bits.specs.Nibbles.{pack, nibble, packed}
use Rattle.network.specs.Due.{Due, held, blank}
use Rattle.network.specs.Order.{layer_lookups, place, sum_place, added_place}
use Rattle.network.specs.Tables.{Layer}

-- The number of a place's encoding, or that it has none.
pub data Label : Type 0 where
  none : Label
  under : ℕ → Label

abbrev pub number_in : Label → ℕ
number_in none = 0
number_in (under n) = n

-- The label of what is due.
abbrev pub label_of : Due → Label
label_of (held n v) = under n
label_of blank = none

-- The number of each standing nibble's encoding, and the label of each nibble of the area.
pub record Labels : Type 0 where
  pub standing : ℕ → ℕ
  pub area : ℕ → Label

-- How many nibbles the result of lookup k has, in layers of given widths, and the number of the first of them.
unfoldable pub results : List ℕ → ℕ → ℕ
results [] k = 0
results (m ∷ ms) k = cond (ltb k (layer_lookups m)) (cond (ltb k 16) (2 * m) 1) (results ms (k - layer_lookups m))

unfoldable pub first_result : List ℕ → ℕ → ℕ
first_result ms zero = 32
first_result ms (suc k) = first_result ms k + results ms k

-- Lookup j of a layer of width m, whose result is numbered from n on: a spread puts the whole of word j, an XOR one nibble.
unfoldable pub put_area : ℕ → ℕ → ℕ → (ℕ → Label) → ℕ → Label
put_area m j n a q =
    cond (ltb j 16) (cond (eqb (q / (2 * m)) j) (under (n + q % (2 * m))) (a q))
    (cond (eqb q (sum_place m (j - 16))) (under n) (a q))

-- "The last XOR of a stage or half copies the sums to the standing bytes and zeroes the area."
unfoldable pub put : ℕ → ℕ → ℕ → Labels → Labels
put m j n T =
    cond (eqb (suc j) (layer_lookups m))
    (record { standing = λ q. number_in (put_area m j n T.area (place m (q / (2 * m) * m) (q % (2 * m)))); area = λ q. none })
    (record { standing = T.standing; area = put_area m j n T.area })

unfoldable pub put_at : List ℕ → ℕ → ℕ → Labels → Labels
put_at [] k n T = T
put_at (m ∷ ms) k n T = cond (ltb k (layer_lookups m)) (put m k n T) (put_at ms (k - layer_lookups m) n T)

-- The labels at count k.
unfoldable pub labels : List ℕ → ℕ → Labels
labels ms zero = record { standing = λ q. q; area = λ q. none }
labels ms (suc k) = put_at ms k (first_result ms k) (labels ms k)

-- ---- tables by the rule: the table of lookup j of a layer, its result numbered from n on, over places labelled T
unfoldable pub rule_in : (ℕ → List ℕ) → Layer → ℕ → ℕ → Labels → List ℕ
rule_in E L j n T =
    let m = L.width in
    let s = L.source j in
    let high = E (T.standing (2 * s)) in
    let low = E (T.standing (2 * s + 1)) in
    let sum = E (number_in (T.area (sum_place m (j - 16)))) in
    let next = E (number_in (T.area (added_place m (j - 16)))) in
    cond (ltb j 16)
    (packed (256 * m) (λ q.
    encode (E (n + q % (2 * m))) (nibble (L.word j (pack (decode high (q / (2 * m) / 16)) (decode low (q / (2 * m) % 16)))) (q % (2 * m)))))
    (packed 128 (λ e. encode (E n) (bit_xor (decode sum (e / 16)) (decode next (e % 16)))))

unfoldable pub rule_at : (ℕ → List ℕ) → List Layer → ℕ → ℕ → Labels → List ℕ
rule_at E [] k n T = []
rule_at E (L ∷ Ls) k n T = cond (ltb k (layer_lookups L.width)) (rule_in E L k n T) (rule_at E Ls (k - layer_lookups L.width) n T)
