-- Laws, not definitions: entries written into memory of their length, and what is recorded of the place that a lookup reads.
-- Assumes nothing.
use mathlib.Core.Bool.{Bool, cond}
use mathlib.Core.List.{List, [], ◌∷◌, ◌++◌}
use mathlib.Core.Path.{◌≡◌, refl, sym, ap, ap₂, ◌∙◌}
use Prim.Native.Nat.{ℕ, ◌+◌, ◌-◌, ◌*◌, ◌/◌, ◌%◌, ◌≤◌, ◌<◌, min}
use native.Mathlib.Omega.{arith}
use borrow.Author.Tests.{lt-ltb, le-ltb}
use borrow.Rule.Slice.PartMut.{put_mid}
use lib.ListN.{length, set, drop, length-append}
use lib.Seq.{get_or-take, get_or-drop}
use Rattle.bits.specs.Bytes.{byte, bytes_of}
use Rattle.bits.specs.Lists.{at, tabulate}
use Rattle.bits.specs.Nibbles.{half, nibble, pack}
use Rattle.bits.proofs.laws.Bytes.{length_bytes_of}
use Rattle.bits.proofs.laws.Lists.{tabulate_at}
use Rattle.network.specs.Lookups.{Shape}
use Rattle.network.specs.Read.{word_place, nibble_place, read_in}
use Rattle.network.specs.Sizes.{offset_of}
use Rattle.network.specs.declared.EntryPlace.{EntryPlace}
use Rattle.network.proofs.laws.Read.{read_spread}
use Rattle.lookups.specs.InPlace.{xor_byte}
use Rattle.lookups.specs.Layer.{SpreadMade, spreads_in}
use Rattle.layer_record.specs.Entries.{Entry, offset_bytes, entry_size, written, entry_read}
use Rattle.layer_record.specs.Layer.{spread_entry}
use Rattle.layer_record.specs.Parts.{table_at, nibble_entry, OffsetPut, ByteRecorded}

pub length_written : (e : Entry) → length (written e) ≡ entry_size
length_written e =
    length-append (bytes_of offset_bytes e.offset) (e.value ∷ [])
    ∙ ap (λ (n : ℕ). n + 1) (length_bytes_of offset_bytes e.offset)

-- ---- one entry, and two, in memory d of their length: each offset is written over a part that is lent, and then the values are
abbrev both_put : List ℕ → List ℕ → List ℕ → List ℕ
both_put d ys zs = put_mid entry_size (entry_size + offset_bytes - entry_size) (put_mid 0 (offset_bytes - 0) d ys) zs

abbrev two_put : List ℕ → List ℕ → List ℕ → ℕ → ℕ → List ℕ
two_put d ys zs h l = set (set (both_put d ys zs) offset_bytes h) (entry_size + offset_bytes) l

two_formed : (f g k : ℕ → ℕ) (h l : ℕ) → two_put (tabulate (2 * entry_size) f) (tabulate offset_bytes g) (tabulate offset_bytes k) h l
    ≡ (tabulate offset_bytes g ++ (h ∷ [])) ++ (tabulate offset_bytes k ++ (l ∷ []))
unfolding tabulate
two_formed f g k h l = refl

two_put_lem : (d : List ℕ) {ys zs : List ℕ} (o p h l : ℕ) → length d ≡ 2 * entry_size → ys ≡ bytes_of offset_bytes o → zs ≡ bytes_of offset_bytes p
    → two_put d ys zs h l ≡ written (record { offset = o; value = h }) ++ written (record { offset = p; value = l })
unfolding bytes_of
two_put_lem d {ys} {zs} o p h l long e f =
    ap₂ (λ (d ys : List ℕ). two_put d ys zs h l) (sym (tabulate_at (2 * entry_size) d long)) e
    ∙ ap (λ (zs : List ℕ). two_put (tabulate (2 * entry_size) (at d)) (tabulate offset_bytes (λ i. byte offset_bytes i o)) zs h l) f
    ∙ two_formed (at d) (λ i. byte offset_bytes i o) (λ i. byte offset_bytes i p) h l

-- ---- the two XOR lookups of a byte
-- An entry of a table that lies in a set.
table_nibble : (set : List ℕ) (start e : ℕ) → e < 256 → nibble (table_at set start) e ≡ half (e % 2) (at set (start + e / 2))
unfolding nibble
table_nibble set start e b = ap (half (e % 2)) (get_or-take 128 (drop start set) (e / 2) 0 (omega arith) ∙ get_or-drop start set (e / 2) 0)

module _ {mem : List ℕ} {start e v : ℕ} {ys : List ℕ} (b : e < 256) (P : OffsetPut mem start e v ys) where
  value_is : v ≡ half (e % 2) (at mem (start + e / 2))
  value_is = P.value ∙ table_nibble mem start e b

pub byte_recorded : {mem a : List ℕ} (d : List ℕ) {ys zs : List ℕ} {start sum added e f h l r : ℕ} → length d ≡ 2 * entry_size
    → e ≡ pack (at a sum / 16) (at a added / 16) → e < 256 → OffsetPut mem start e h ys
    → f ≡ pack (at a sum % 16) (at a added % 16) → f < 256 → OffsetPut mem (start + 128) f l zs
    → r ≡ pack h l → ByteRecorded mem start sum added a (set a sum r) (two_put d ys zs h l)
unfolding xor_byte
byte_recorded {mem} {a} d {start = start} {sum} {added} {e} {f} {h} {l} long p b P q c Q j =
    record {
      area =
          ap (set a sum) j
          ∙ ap₂ (λ (x y : ℕ). set a sum (pack x y))
          (P.value ∙ ap (nibble (table_at mem start)) p)
          (Q.value ∙ ap (nibble (table_at mem (start + 128))) q);
      bytes =
          two_put_lem d (start + e / 2) (start + 128 + f / 2) h l long P.bytes Q.bytes
          ∙ ap₂ (λ (x y : ℕ). written (record { offset = start + e / 2; value = x }) ++ written (record { offset = start + 128 + f / 2; value = y }))
          (value_is b P) (value_is c Q)
          ∙ ap₂ (λ (x y : ℕ). nibble_entry mem start x ++ nibble_entry mem (start + 128) y) p q;
    }

-- ---- what is recorded of a place
module _ (j : ℕ) (mem : List ℕ) (r : EntryPlace) where
  abbrev of_kind : Bool → Entry
  of_kind b = record { offset = r.offset; value = cond b (at mem r.offset) (half r.half (at mem r.offset)) }

  of_spread : j < 16 → record { offset = r.offset; value = at mem r.offset } ≡ entry_read j mem r
  of_spread h = ap of_kind (sym (lt-ltb j 16 h))

  of_half : 16 ≤ j → record { offset = r.offset; value = half r.half (at mem r.offset) } ≡ entry_read j mem r
  of_half h = ap of_kind (sym (le-ltb j 16 h))

-- By XOR lookup y, whose table begins at byte `start`.
pub nibble_noted : (mem : List ℕ) (m from start y e : ℕ) → start ≡ from + 4096 * m + y * 128
    → nibble_entry mem start e ≡ written (entry_read (16 + y) mem (nibble_place (from + offset_of m (16 + y)) e))
nibble_noted mem m from start y e s =
    let sixteen : min (16 + y) 16 ≡ 16 = omega arith in
    let there : start ≡ from + offset_of m (16 + y) = rw sixteen (omega arith) in
    ap written (of_half (16 + y) mem (nibble_place start e) (omega arith))
    ∙ ap (λ (i : ℕ). written (entry_read (16 + y) mem (nibble_place i e))) there

-- By spread lookup p, which reads the word that begins at byte r.
pub spread_noted : {S : Shape} {mem : List ℕ} {from p : ℕ} {s : List ℕ} (a : List ℕ) {b : List ℕ} {r : ℕ} {b' : List ℕ} → p < 16
    → SpreadMade S mem from p s b r b' → written (record { offset = r; value = at mem r }) ≡ spread_entry S mem from s a p
spread_noted {S} {mem} {from} {p} {s} a h g =
    let start : ℕ = from + offset_of S.width p in
    let place : EntryPlace = read_in S p start s (spreads_in S mem from s p a) in
    let is : place ≡ word_place start S.width (at s (S.source p)) = read_spread S p start s (spreads_in S mem from s p a) h in
    ap (λ (o : ℕ). written (record { offset = o; value = at mem o })) (g.word ∙ ap (λ (r : EntryPlace). r.offset) (sym is))
    ∙ ap written (of_spread p mem place h)
