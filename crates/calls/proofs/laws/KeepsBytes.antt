-- Laws, not definitions: lookups over bytes keep a state of bytes. A spread lookup copies bytes into the area, an XOR lookup replaces a nibble by a nibble, and
-- what a layer's last lookup leaves are bytes of the area and zeros.
-- Assumes nothing.
use mathlib.Core.List.{List, [], ◌∷◌, ◌++◌}
use Prim.Native.Nat.{ℕ, zero, suc, ◌+◌, ◌-◌, ◌*◌}
use native.Mathlib.Omega.{arith}
use lib.Dec.{eqb, ltb}
use lib.ListN.{take, drop}
use Rattle.bits.specs.Bytes.{Bytes}
use Rattle.bits.specs.Lists.{at}
use Rattle.bits.proofs.laws.Checked.{either_has}
use Rattle.bits.proofs.laws.Lists.{append_below, tabulate_below, zero_at}
use Rattle.bits.proofs.laws.Nibbles.{nibble_lt, set_nibble_bytes}
use Rattle.bits.proofs.laws.Cuts.{take_bytes, drop_bytes}
use Rattle.network.specs.Lookups.{State, zero_area, Shape, spread_area, xor_index, xor_area, sums, area_in, lookup_in, lookup_at, lookup}
use Rattle.network.specs.Order.{layer_lookups, sum_place}
use Rattle.layout.specs.Stages.{shapes, table_size, table_offset}
use Rattle.calls.specs.Calls.{table_part, step, advance}
use Rattle.calls.specs.PlaceRead.{OfBytes}

-- ---- one lookup of a layer
spread_bytes : (m s p : ℕ) (t standing area : List ℕ) → Bytes t → Bytes area → Bytes (spread_area m s p t standing area)
unfolding spread_area
spread_bytes m s p t standing area bt ba =
    let word : List ℕ = drop (at standing s * m) t in
    append_below 256 (take (p * m) area ++ take m word) (drop (p * m + m) area)
    (append_below 256 (take (p * m) area) (take m word) (take_bytes (p * m) area ba) (take_bytes m word (drop_bytes (at standing s * m) t bt)))
    (drop_bytes (p * m + m) area ba)

xor_bytes : (m x : ℕ) (t area : List ℕ) → Bytes t → Bytes area → Bytes (xor_area m x t area)
unfolding xor_area
xor_bytes m x t area bt ba = set_nibble_bytes area (sum_place m x) _ ba (nibble_lt t bt (xor_index m x area))

sums_bytes : (m : ℕ) (area : List ℕ) → Bytes area → Bytes (sums m area)
unfolding sums
sums_bytes m area b = tabulate_below 256 16 _ (omega arith) (λ q h. b _)

pub zero_bytes : Bytes zero_area
zero_bytes i = rw (zero_at 256 i) (omega arith)

module _ (S : Shape) (j : ℕ) (t : List ℕ) (w : State) (bt : Bytes t) (b : OfBytes w) where
  area_bytes : Bytes (area_in S j t w)
  area_bytes =
      either_has (λ (l : List ℕ). Bytes l) (ltb j 16) _ _
      (spread_bytes S.width (S.source j) j t w.standing w.area bt b.area)
      (xor_bytes S.width (j - 16) t w.area bt b.area)

  in_bytes : OfBytes (lookup_in S j t w)
  unfolding lookup_in
  in_bytes =
      either_has OfBytes (ltb j 16) _ _ (record { standing = b.standing; area = area_bytes })
      (either_has OfBytes (eqb (suc j) (layer_lookups S.width)) _ _
      (record { standing = sums_bytes S.width (area_in S j t w) area_bytes; area = zero_bytes })
      (record { standing = b.standing; area = area_bytes }))

-- ---- one lookup of a network, and lookups over a set's memory
at_bytes : (Ss : List Shape) (k : ℕ) (t : List ℕ) (w : State) → Bytes t → OfBytes w → OfBytes (lookup_at Ss k t w)
unfolding lookup_at
at_bytes [] k t w bt b = b
at_bytes (S ∷ Ss) k t w bt b =
    either_has OfBytes (ltb k (layer_lookups S.width)) _ _ (in_bytes S k t w bt b) (at_bytes Ss (k - layer_lookups S.width) t w bt b)

module _ (reads : ℕ → ℕ) (nr : ℕ) (mem : List ℕ) (bm : Bytes mem) where
  part_bytes : (k : ℕ) → Bytes (table_part nr mem k)
  part_bytes k = take_bytes (table_size nr k) (drop (table_offset nr k) mem) (drop_bytes (table_offset nr k) mem bm)

  pub advance_bytes : (n : ℕ) (s : State) → OfBytes s → OfBytes (advance reads nr mem n s)
  unfolding advance lookup
  advance_bytes zero s b = b
  advance_bytes (suc n) s b =
      let t : List ℕ = table_part nr mem s.count in
      advance_bytes n (step reads nr t s) (at_bytes (shapes reads nr) s.count t s (part_bytes s.count) b)
