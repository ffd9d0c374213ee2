-- All lookups of a stage or half over the memory of a set, where their tables begin at byte `from`. Definitions only, for this crate's functions.
use Rattle.std.specs.Prelude.{List, ◌≡◌, ℕ, ◌+◌, ◌-◌, ◌/◌, ◌≤◌, ◌<◌}
use Rattle.network.specs.Lookups.{Shape, zero_area, xor_index}
use Rattle.network.specs.Order.{xors, layer_lookups}
use Rattle.network.specs.Read.{read_in}
use Rattle.network.specs.Sizes.{offset_of, layer_bytes}
use Rattle.network.specs.Theorems.{WithinTable}
use Rattle.network.specs.declared.EntryPlace.{EntryPlace}
use Rattle.lookups.specs.InPlace.{Width}
use Rattle.lookups.specs.Layer.{spreads_in, xors_in, sums_in}

-- Group g is one of a stage or half of width m, whose tables lie in memory of the given length.
pub record GroupAsked (m g from long : ℕ) : Type 0 where
  pub width : Width m
  pub group : g < 16 / m
  pub room : from + layer_bytes m ≤ long

-- The k XOR lookups from lookup x on turn the area a into a', and the last of them, if there is one, reads entry e.
pub record XorsMade (m : ℕ) (set : List ℕ) (from x k : ℕ) (a : List ℕ) (e : ℕ) (a' : List ℕ) : Type 0 where
  pub entry : 0 < k → e ≡ xor_index m (k - 1 + x) (xors_in m set from x (k - 1) a)
  pub below : e < 256
  pub area : a' ≡ xors_in m set from x k a

-- The place that the last lookup of the layer reads, where all but it are made.
unfoldable pub place_of_last : Shape → List ℕ → ℕ → List ℕ → List ℕ → EntryPlace
place_of_last S set from s a =
    let m = S.width in
    let last = layer_lookups m - 1 in
    read_in S last (from + offset_of m last) s (xors_in m set from 0 (xors m - 1) (spreads_in S set from s 16 a))

-- All lookups of a layer turn standing bytes s and area a into s' and a', and the last reads the place r.
pub record LayerMade (S : Shape) (set : List ℕ) (from : ℕ) (s a : List ℕ) (r : EntryPlace) (s' a' : List ℕ) : Type 0 where
  pub read : r ≡ place_of_last S set from s a
  pub table : WithinTable S.width (layer_lookups S.width - 1) (from + offset_of S.width (layer_lookups S.width - 1)) r
  pub standing : s' ≡ sums_in S set from s a
  pub area : a' ≡ zero_area
