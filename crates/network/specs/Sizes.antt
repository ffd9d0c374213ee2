-- Sizes, over the widths of layers. "Each table is used once and stored in order of use, so table number = look-up number, from 0."
-- A spread table has 256 words, and an XOR table 128 bytes (document 01, "The 3,008 look-ups"). Definitions only.
use Rattle.std.specs.Prelude.{cond, List, [], ◌∷◌, ℕ, ◌+◌, ◌-◌, ◌*◌, min, ltb}
use Rattle.network.specs.Numbers.{layer_results}
use Rattle.network.specs.Order.{xors, layer_lookups}

-- Of lookup j of a layer of width m: the bytes of its table, and those of the layer's tables before it.
abbrev pub size_of : ℕ → ℕ → ℕ
size_of m j = cond (ltb j 16) (256 * m) 128

abbrev pub offset_of : ℕ → ℕ → ℕ
offset_of m j = min j 16 * (256 * m) + (j - 16) * 128

-- All bytes of a layer's tables.
unfoldable pub layer_bytes : ℕ → ℕ
layer_bytes m = 16 * (256 * m) + xors m * 128

-- Of layers of given widths: all lookups, all bytes of their tables, and all nibbles of their results.
unfoldable pub lookups_in : List ℕ → ℕ
lookups_in [] = 0
lookups_in (m ∷ ms) = layer_lookups m + lookups_in ms

unfoldable pub bytes_in : List ℕ → ℕ
bytes_in [] = 0
bytes_in (m ∷ ms) = layer_bytes m + bytes_in ms

unfoldable pub results_in : List ℕ → ℕ
results_in [] = 0
results_in (m ∷ ms) = layer_results m + results_in ms

-- Of lookup k: the bytes of its table, and those of all tables before it. Past the last lookup there is an empty table at the end.
unfoldable pub size_in_of : List ℕ → ℕ → ℕ
size_in_of [] k = 0
size_in_of (m ∷ ms) k = cond (ltb k (layer_lookups m)) (size_of m k) (size_in_of ms (k - layer_lookups m))

unfoldable pub offset_in : List ℕ → ℕ → ℕ
offset_in [] k = 0
offset_in (m ∷ ms) k = cond (ltb k (layer_lookups m)) (offset_of m k) (layer_bytes m + offset_in ms (k - layer_lookups m))
