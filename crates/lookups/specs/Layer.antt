-- The lookups of a stage or half over the memory of a set, where their tables begin at byte `from`: for crates that make all of them, a spread lookup, a
-- pair of XOR lookups or a word of a group at a time. Definitions only.
use Rattle.std.specs.Prelude.{List, ◌≡◌, ℕ, zero, suc, ◌+◌, ◌-◌, ◌*◌, ◌/◌, ◌≤◌, ◌<◌, length, take, drop}
use Rattle.bits.specs.Lists.{at}
use Rattle.network.specs.Lookups.{Shape, spread_area, xor_area, sums}
use Rattle.network.specs.Order.{xors}
use Rattle.network.specs.Sizes.{size_of, offset_of, layer_bytes}
use Rattle.layout.specs.Stages.{width_of}
use Rattle.layout.specs.declared.stage.Stage.{Stage}
use Rattle.lookups.specs.InPlace.{offset_limit, Width}
use Rattle.lookups.specs.declared.layer.Word.{Word}

-- ---- what the functions ask
-- The tables of a stage or half, from byte `from` on, lie in memory of the given length.
pub record LayerStands (s : Stage) (from long : ℕ) : Type 0 where
  pub width : Width (width_of s)
  pub room : from + layer_bytes (width_of s) ≤ long
  pub short : long ≤ offset_limit

-- The same, and spread lookup p is one of 16.
pub record SpreadAsked (s : Stage) (p from long : ℕ) : Type 0 where
  pub stands : LayerStands s from long
  pub within : p < 16

-- Word t is one of group g of a stage or half of width m that is added to the group's sum, which is its word 0.
pub record WordIn (m g t : ℕ) : Type 0 where
  pub width : Width m
  pub group : g < 16 / m
  pub some : 0 < t
  pub within : t < m

-- ---- the tables, and what lookups over them leave
abbrev pub table_from : ℕ → List ℕ → ℕ → ℕ → List ℕ
table_from m set from j = take (size_of m j) (drop (from + offset_of m j) set)

-- Spread lookup p reads the word that begins at byte r of the set, and turns the area a into a'.
pub record SpreadMade (S : Shape) (set : List ℕ) (from p : ℕ) (s a : List ℕ) (r : ℕ) (a' : List ℕ) : Type 0 where
  pub word : r ≡ from + offset_of S.width p + at s (S.source p) * S.width
  pub ends : r + S.width ≤ length set
  pub area : a' ≡ spread_area S.width (S.source p) p (table_from S.width set from p) s a

-- The area after the first k spread lookups.
unfoldable pub spreads_in : Shape → List ℕ → ℕ → List ℕ → ℕ → List ℕ → List ℕ
spreads_in S set from s zero a = a
spreads_in S set from s (suc k) a = spread_area S.width (S.source k) k (table_from S.width set from k) s (spreads_in S set from s k a)

-- The area after k XOR lookups, from XOR lookup x on.
unfoldable pub xors_in : ℕ → List ℕ → ℕ → ℕ → ℕ → List ℕ → List ℕ
xors_in m set from x zero a = a
xors_in m set from x (suc k) a = xor_area m (k + x) (table_from m set from (16 + (k + x))) (xors_in m set from x k a)

-- The sums after all of them.
unfoldable pub sums_in : Shape → List ℕ → ℕ → List ℕ → List ℕ → List ℕ
sums_in S set from s a = let m = S.width in sums m (xors_in m set from 0 (xors m) (spreads_in S set from s 16 a))

-- ---- the order of the XOR lookups: "column, then word 1 to 3, then half-byte 0 to 7"
-- Those of one word, two for each byte; those of a group, of its words but the first; and the first of word t of group g.
abbrev pub word_xors : ℕ → ℕ
word_xors m = 2 * m

abbrev pub group_xors : ℕ → ℕ
group_xors m = (m - 1) * word_xors m

abbrev pub word_first : ℕ → ℕ → ℕ → ℕ
word_first m g t = (t - 1) * word_xors m + g * group_xors m

-- Where the word and its group's sum stand in the area, and their tables behind where those of the stage or half begin. The word stands behind the sum and ends
-- within the area, and its tables end within those of the stage or half.
pub record WordAt (m g t : ℕ) (r : Word) : Type 0 where
  pub sum : r.sum ≡ g * m * m
  pub added : r.added ≡ r.sum + t * m
  pub behind : r.sum + m ≤ r.added
  pub inside : r.added + m ≤ 256
  pub tables : r.tables ≡ 4096 * m + 128 * word_first m g t
  pub ends : r.tables + 256 * m ≤ layer_bytes m
