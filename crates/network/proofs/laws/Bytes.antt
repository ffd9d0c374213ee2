-- Laws, not definitions: tables, and what layers leave, are bytes; and encodings keep blocks apart.
-- Assumes nothing.
use mathlib.Core.List.{List, [], ◌∷◌}
use mathlib.Core.Path.{◌≡◌, sym, ap, ◌∙◌}
use Prim.Native.Nat.{ℕ, ◌-◌, ◌*◌, ◌<◌}
use native.Mathlib.Omega.{arith}
use lib.Dec.{ltb}
use Rattle.bits.specs.Bytes.{Bytes, Block}
use Rattle.bits.specs.Encodings.{encode, decode}
use Rattle.bits.specs.Lists.{at}
use Rattle.bits.specs.Nibbles.{nibble, packed}
use Rattle.bits.proofs.laws.Checked.{either_has}
use Rattle.bits.proofs.laws.Encodings.{decode_encode, encode_lt}
use Rattle.bits.proofs.laws.Lists.{length_tabulate}
use Rattle.bits.proofs.laws.Nibbles.{nibble_packed, packed_ext, packed_nibbles, packed_bytes, nibble_lt}
use Rattle.network.specs.Due.{summed, values_in, left_by, encoded}
use Rattle.network.specs.Numbers.{Numbers, next_numbers}
use Rattle.network.specs.Order.{layer_lookups}
use Rattle.network.specs.Tables.{Layer, Good, AllGood, spread_table, xor_table, spread_entry, xor_entry, table_in, table_at}
use Rattle.network.specs.Theorems.{Permutations}
use Rattle.network.proofs.laws.Values.{summed_bytes}

-- ---- tables are bytes
pub table_bytes : (E : ℕ → List ℕ) → Permutations E → (L : Layer) (N : Numbers) (j : ℕ) → Bytes (table_in E L N j)
unfolding table_in spread_table xor_table spread_entry xor_entry
table_bytes E perm L N j =
    either_has (λ (t : List ℕ). Bytes t) (ltb j 16) (spread_table E L N j) (xor_table E L.width N.first (j - 16))
    (packed_bytes (256 * L.width) _ (λ q h. encode_lt (perm _) _)) (packed_bytes 128 _ (λ q h. encode_lt (perm _) _))

pub tables_bytes : (E : ℕ → List ℕ) → Permutations E → (Ls : List Layer) (N : Numbers) (k : ℕ) → Bytes (table_at E Ls N k)
unfolding table_at
tables_bytes E perm [] N k = λ i. omega arith
tables_bytes E perm (L ∷ Ls) N k =
    either_has (λ (t : List ℕ). Bytes t) (ltb k (layer_lookups L.width)) (table_in E L N k) (table_at E Ls (next_numbers L.width N) (k - layer_lookups L.width))
    (table_bytes E perm L N k) (tables_bytes E perm Ls (next_numbers L.width N) (k - layer_lookups L.width))

-- ---- what layers leave
pub summed_block : (L : Layer) → Good L → (l : List ℕ) → Block (summed (values_in L l))
summed_block L g l = record { long = unfold summed in length_tabulate 16 _; bytes = summed_bytes (values_in L l) (λ p. g.bytes p (at l (L.source p))) }

pub left_block : (Ls : List Layer) → AllGood Ls → (a : List ℕ) → Block a → Block (left_by Ls a)
unfolding left_by
left_block [] g a p = p
left_block (L ∷ Ls) g a p = left_block Ls g.1 (summed (values_in L a)) (summed_block L g.0 a)

-- ---- encodings keep blocks apart
pub encoded_apart : (E : ℕ → List ℕ) → Permutations E → (number : ℕ → ℕ) (a b : List ℕ) → Block a → Block b → encoded E number a ≡ encoded E number b → a ≡ b
unfolding encoded
encoded_apart E perm number a b p q e =
    sym (packed_nibbles 16 a p.long) ∙ packed_ext 16 (nibble a) (nibble b) same ∙ packed_nibbles 16 b q.long
  where
    shows : (s : List ℕ) → Block s → (n : ℕ) → n < 32 → decode (E (number n)) (nibble (packed 16 (λ i. encode (E (number i)) (nibble s i))) n) ≡ nibble s n
    shows s c n h =
        ap (decode (E (number n))) (nibble_packed 16 (λ i. encode (E (number i)) (nibble s i)) (λ i. encode_lt (perm (number i)) (nibble s i)) n h)
        ∙ decode_encode (perm (number n)) (nibble s n) (nibble_lt s c.bytes n)

    same : (n : ℕ) → n < 32 → nibble a n ≡ nibble b n
    same n h = sym (shows a p n h) ∙ ap (λ (s : List ℕ). decode (E (number n)) (nibble s n)) e ∙ shows b q n h
