-- What the tables of a network hold, made from its layers and from encodings: E n is encoding number n. Definitions only.
use Rattle.std.specs.Prelude.{cond, List, [], ◌∷◌, map, ℕ, suc, ◌+◌, ◌-◌, ◌*◌, ◌/◌, ◌%◌, ◌<◌, ltb}
use Rattle.std.specs.Int.Bits.{bit_xor}
use Rattle.bits.specs.Encodings.{encode, decode}
use Rattle.bits.specs.Lists.{at}
use Rattle.bits.specs.Nibbles.{pack, nibble, packed}
use Rattle.network.specs.Lookups.{Shape}
use Rattle.network.specs.Numbers.{Numbers, encoding_number, next_numbers}
use Rattle.network.specs.Order.{GoodWidth, layer_lookups, nibble_of, added_of, sum_of}

-- A layer: its width m, the standing byte that spread lookup p reads, and the word of m bytes that it makes of the byte x.
pub record Layer : Type 0 where
  pub width : ℕ
  pub source : ℕ → ℕ
  pub word : ℕ → ℕ → List ℕ

abbrev pub shape_of : Layer → Shape
shape_of L = record { width = L.width; source = L.source }

pub record Good (L : Layer) : Type 0 where
  pub groups : GoodWidth L.width
  pub reads : (p : ℕ) → p < 16 → L.source p < 16
  pub bytes : (p x b : ℕ) → at (L.word p x) b < 256

abbrev pub widths_of : List Layer → List ℕ
widths_of Ls = map (λ (L : Layer). L.width) Ls

abbrev pub shapes_of : List Layer → List Shape
shapes_of Ls = map shape_of Ls

abbrev pub AllGood : List Layer → Type 0
AllGood [] = Unit {0}
AllGood (L ∷ Ls) = Good L × AllGood Ls

module _ (E : ℕ → List ℕ) where
  -- "Spread tables [..] decode the indexing byte by the two lists of its place, act, and encode the word by their own lists": nibble h of
  -- the word for the byte x.
  unfoldable pub spread_entry : Layer → Numbers → ℕ → ℕ → ℕ → ℕ
  spread_entry L N p x h =
      let s = L.source p in
      encode (E (encoding_number L.width N.first p 0 h))
      (nibble (L.word p (pack (decode (E (N.standing (2 * s))) (x / 16)) (decode (E (N.standing (2 * s + 1))) (x % 16)))) h)

  unfoldable pub spread_table : Layer → Numbers → ℕ → List ℕ
  spread_table L N p = packed (256 * L.width) (λ q. spread_entry L N p (q / (2 * L.width)) (q % (2 * L.width)))

  -- "XOR tables: index 16a+b, a the sum so far and b the next word's half-byte, both encoded": the entry of the XOR that adds word
  -- w + d + 1 to word w, at nibble h.
  unfoldable pub xor_entry : ℕ → ℕ → ℕ → ℕ → ℕ → ℕ → ℕ
  xor_entry m first w d h e =
      encode (E (encoding_number m first w (suc d) h))
      (bit_xor (decode (E (encoding_number m first w d h)) (e / 16)) (decode (E (encoding_number m first (w + suc d) 0 h)) (e % 16)))

  -- "Entry e stands in byte e/2, even e in the high half."
  unfoldable pub xor_table : ℕ → ℕ → ℕ → List ℕ
  xor_table m first x = packed 128 (xor_entry m first (sum_of m x) (added_of m x) (nibble_of m x))

  -- The table of lookup j of a layer, and of lookup k of a network.
  unfoldable pub table_in : Layer → Numbers → ℕ → List ℕ
  table_in L N j = cond (ltb j 16) (spread_table L N j) (xor_table L.width N.first (j - 16))

  unfoldable pub table_at : List Layer → Numbers → ℕ → List ℕ
  table_at [] N k = []
  table_at (L ∷ Ls) N k =
      cond (ltb k (layer_lookups L.width)) (table_in L N k) (table_at Ls (next_numbers L.width N) (k - layer_lookups L.width))
