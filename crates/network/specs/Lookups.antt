-- One lookup, over any table and any state, and the walk that makes them one by one. Nothing here knows of encodings: "the walk over
-- memory that no maker filled follows the same rules" (document 01, "The 3,008 look-ups"). Definitions only.
use Rattle.std.specs.Prelude.{cond, List, [], ◌∷◌, ℕ, zero, suc, ◌+◌, ◌-◌, ◌*◌, ◌/◌, ◌%◌, eqb, ltb, drop, replicate}
use Rattle.std.proofs.Math.Seq.{paste}
use Rattle.bits.specs.Lists.{at, tabulate}
use Rattle.bits.specs.Nibbles.{pack, nibble, set_nibble}
use Rattle.network.specs.Order.{layer_lookups, sum_place, added_place}

-- The evaluation state: the part of document 01's held walk that lookups change. "A held walk is a count, 16 standing bytes and a spread area
-- of 256 bytes, all by value."
pub record State : Type 0 where
  pub count : ℕ
  pub standing : List ℕ
  pub area : List ℕ

-- The state of a count n, standing bytes s and an area a.
abbrev pub state_at : ℕ → List ℕ → List ℕ → State
state_at n s a = record { count = n; standing = s; area = a }

-- All that a lookup must know of its layer: the width, and the standing byte that each spread lookup reads.
pub record Shape : Type 0 where
  pub width : ℕ
  pub source : ℕ → ℕ

abbrev pub zero_area : List ℕ
zero_area = replicate 256 0

module _ (m : ℕ) where
  -- Spread lookup p reads standing byte s, which picks a word of m bytes from the table t. "Spread words lie in order from byte 0 of the
  -- area."
  unfoldable pub spread_area : ℕ → ℕ → List ℕ → List ℕ → List ℕ → List ℕ
  spread_area s p t standing area = paste area (p * m) (drop (at standing s * m) t) m

  -- XOR lookup x: "index 16a+b, a the sum so far and b the next word's half-byte, both encoded; entry e stands in byte e/2, even e in the
  -- high half". "An XOR result replaces word 0's half-byte (of its column, in a round)."
  abbrev pub xor_index : ℕ → List ℕ → ℕ
  xor_index x area = pack (nibble area (sum_place m x)) (nibble area (added_place m x))

  unfoldable pub xor_area : ℕ → List ℕ → List ℕ → List ℕ
  xor_area x t area = set_nibble area (sum_place m x) (nibble t (xor_index x area))

  -- The sums: word 0 of each group, 16 bytes in all.
  unfoldable pub sums : List ℕ → List ℕ
  sums area = tabulate 16 (λ q. at area (q / m * m * m + q % m))

-- The area that lookup j of a layer makes over its table t.
abbrev pub area_in : Shape → ℕ → List ℕ → State → List ℕ
area_in S j t w = cond (ltb j 16) (spread_area S.width (S.source j) j t w.standing w.area) (xor_area S.width (j - 16) t w.area)

-- What lookup j of a layer leaves, where it made the area a. "The last XOR of a stage or half copies the sums to the standing bytes and zeroes
-- the area."
abbrev pub leaving : Shape → ℕ → List ℕ → State → State
leaving S j a w =
    cond (ltb j 16) (state_at (suc w.count) w.standing a)
    (cond (eqb (suc j) (layer_lookups S.width))
    (state_at (suc w.count) (sums S.width a) zero_area)
    (state_at (suc w.count) w.standing a))

-- Lookup j of a layer.
unfoldable pub lookup_in : Shape → ℕ → List ℕ → State → State
lookup_in S j t w = leaving S j (area_in S j t w) w

-- Lookup k of a network of layers. Past the last there is none, and the state stays as it was.
unfoldable pub lookup_at : List Shape → ℕ → List ℕ → State → State
lookup_at [] k t w = w
lookup_at (S ∷ Ss) k t w = cond (ltb k (layer_lookups S.width)) (lookup_in S k t w) (lookup_at Ss (k - layer_lookups S.width) t w)

-- The lookup whose number is the state's count.
unfoldable pub lookup : List Shape → List ℕ → State → State
lookup Ss t w = lookup_at Ss w.count t w

-- The walk of n lookups, lookup k over the table `t k`.
unfoldable pub walked : List Shape → (ℕ → List ℕ) → ℕ → State → State
walked Ss t zero w = w
walked Ss t (suc n) w = walked Ss t n (lookup Ss (t w.count) w)
