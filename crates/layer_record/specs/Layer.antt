-- What is recorded of the lookups of a stage or half, made in place over the memory of a set, where their tables begin at byte `from`. Definitions only.
use Rattle.std.specs.Prelude.{List, ◌++◌, ◌≡◌, ℕ, ◌+◌}
use Rattle.bits.specs.Lists.{concat}
use Rattle.network.specs.Lookups.{Shape, zero_area, xor_index}
use Rattle.network.specs.Order.{xors}
use Rattle.network.specs.Read.{nibble_place, read_in}
use Rattle.network.specs.Sizes.{offset_of}
use Rattle.lookups.specs.Layer.{spreads_in, xors_in, sums_in}
use Rattle.layer_record.specs.Entries.{written, entry_read}

-- What is recorded of spread lookup p, from standing bytes s and the area a, over the area that the lookups before have left.
abbrev pub spread_entry : Shape → List ℕ → ℕ → List ℕ → List ℕ → ℕ → List ℕ
spread_entry S set from s a p = written (entry_read p set (read_in S p (from + offset_of S.width p) s (spreads_in S set from s p a)))

-- The same of XOR lookup i + x of a layer of width m, where the lookups before x have left the area a.
abbrev pub xor_entry : ℕ → List ℕ → ℕ → ℕ → List ℕ → ℕ → List ℕ
xor_entry m set from x a i =
    written (entry_read (16 + (i + x)) set (nibble_place (from + offset_of m (16 + (i + x))) (xor_index m (i + x) (xors_in m set from x i a))))

-- What is recorded of all of them, one entry behind the other.
abbrev pub layer_entries : Shape → List ℕ → ℕ → List ℕ → List ℕ → List ℕ
layer_entries S set from s a =
    concat 16 (spread_entry S set from s a) ++ concat (xors S.width) (xor_entry S.width set from 0 (spreads_in S set from s 16 a))

-- All lookups of the layer turn standing bytes s and area a into s' and a', and `left` is what is recorded of them.
pub record LayerRecorded (S : Shape) (set : List ℕ) (from : ℕ) (s a s' a' left : List ℕ) : Type 0 where
  pub standing : s' ≡ sums_in S set from s a
  pub area : a' ≡ zero_area
  pub bytes : left ≡ layer_entries S set from s a
