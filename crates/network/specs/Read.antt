-- The place that a lookup reads. "Each look-up shall hand back, besides its value, the byte offset within the set of the entry it read. It also
-- says which half: 0 for the high half of an XOR entry and for any spread entry, 1 for the low half" (document 02, Ticket 2). It goes by the state
-- before the lookup, over any state and any memory. Definitions only.
use Rattle.std.specs.Prelude.{cond, List, [], ◌∷◌, ℕ, ◌+◌, ◌-◌, ◌*◌, ◌/◌, ◌%◌, ltb, drop}
use Rattle.std.proofs.Math.Seq.{paste}
use Rattle.bits.specs.Lists.{at}
use Rattle.bits.specs.Nibbles.{half, set_nibble}
use Rattle.network.specs.Lookups.{State, Shape, xor_index, leaving}
use Rattle.network.specs.Order.{layer_lookups, sum_place}
use Rattle.network.specs.declared.EntryPlace.{EntryPlace}

-- A spread entry is a word of m bytes, and word x stands m · x bytes into its table.
abbrev pub word_place : ℕ → ℕ → ℕ → EntryPlace
word_place from m x = record { offset = from + x * m; half = 0 }

-- "Entry e stands in byte e/2, even e in the high half."
abbrev pub nibble_place : ℕ → ℕ → EntryPlace
nibble_place from e = record { offset = from + e / 2; half = e % 2 }

-- The place that lookup j of a layer reads, whose table begins at byte `from` of the set, by the standing bytes and the area before it.
unfoldable pub read_in : Shape → ℕ → ℕ → List ℕ → List ℕ → EntryPlace
read_in S j from standing area =
    cond (ltb j 16) (word_place from S.width (at standing (S.source j))) (nibble_place from (xor_index S.width (j - 16) area))

-- The same of lookup k of a network of layers. Past the last lookup there is no entry: byte `from`, half 0.
unfoldable pub read_at : List Shape → ℕ → ℕ → List ℕ → List ℕ → EntryPlace
read_at [] k from standing area = record { offset = from; half = 0 }
read_at (S ∷ Ss) k from standing area =
    cond (ltb k (layer_lookups S.width)) (read_in S k from standing area) (read_at Ss (k - layer_lookups S.width) from standing area)

-- ---- a lookup said by the place that it reads in the memory of a set, without its table
-- A spread lookup puts the bytes from that offset into the area, an XOR lookup the nibble there.
abbrev pub area_from : Shape → ℕ → List ℕ → EntryPlace → State → List ℕ
area_from S j mem r w =
    let m = S.width in
    cond (ltb j 16) (paste w.area (j * m) (drop r.offset mem) m)
    (set_nibble w.area (sum_place m (j - 16)) (half r.half (at mem r.offset)))

unfoldable pub lookup_from : Shape → ℕ → List ℕ → EntryPlace → State → State
lookup_from S j mem r w = leaving S j (area_from S j mem r w) w

-- The bytes that an entry takes part in: those of a word, or the one that a nibble is half of.
abbrev pub entry_bytes : ℕ → ℕ → ℕ
entry_bytes m j = cond (ltb j 16) m 1
