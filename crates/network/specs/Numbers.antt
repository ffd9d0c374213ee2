-- The numbers of the encodings. "From list 32 on, lists belong to look-up results in order of use, and within one result in order of
-- its half-bytes." (document 01, "The bundle".) The closed form here is what tables are made from; Rule.antt has the rule itself, and
-- Theorems.antt says that they agree. Definitions only.
use Rattle.std.specs.Prelude.{List, [], ◌∷◌, ℕ, zero, suc, ◌+◌, ◌-◌, ◌*◌, ◌/◌, ◌%◌}
use Rattle.network.specs.Order.{xors}

-- In a layer of width m whose results are numbered from `first` on: the number of the encoding of nibble h of word w after d words were
-- added to it. That of its spread lookup's result, or that of the d-th XOR into it.
unfoldable pub encoding_number : ℕ → ℕ → ℕ → ℕ → ℕ → ℕ
encoding_number m first w zero h = first + w * (2 * m) + h
encoding_number m first w (suc d) h = first + 16 * (2 * m) + (w / m * (m - 1) + d) * (2 * m) + h

-- How many numbers a layer takes: a spread result has 2 m nibbles, an XOR result one.
unfoldable pub layer_results : ℕ → ℕ
layer_results m = 16 * (2 * m) + xors m

-- What a layer starts from: the number of its first result, and the number of the encoding of each standing nibble.
pub record Numbers : Type 0 where
  pub first : ℕ
  pub standing : ℕ → ℕ

-- The number of nibble q of a layer's sums: it is nibble q % 2 m of the sum of group q / 2 m, to which m - 1 words were added.
abbrev pub sum_number : ℕ → ℕ → ℕ → ℕ
sum_number m first q = encoding_number m first (q / (2 * m) * m) (m - 1) (q % (2 * m))

-- What the next layer starts from. "A copied sum keeps its list."
unfoldable pub next_numbers : ℕ → Numbers → Numbers
next_numbers m N = record { first = N.first + layer_results m; standing = sum_number m N.first }

-- What a network starts from. The input coding has "lists 0 to 31 on its 32 half-bytes".
unfoldable pub start_numbers : Numbers
start_numbers = record { first = 32; standing = λ q. q }

-- What stands after layers of given widths.
unfoldable pub numbers_after : List ℕ → Numbers → Numbers
numbers_after [] N = N
numbers_after (m ∷ ms) N = numbers_after ms (next_numbers m N)
