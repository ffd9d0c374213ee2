-- Laws, not definitions: the starred cases of specs/Cases.antt.
-- Assumes nothing.
use mathlib.Core.Bool.{cond}
use mathlib.Core.List.{List, [], ◌∷◌}
use mathlib.Core.Path.{◌≡◌, refl, ap, ap₂, ◌∙◌}
use Prim.Native.Nat.{ℕ, zero, suc, ◌+◌, ◌-◌, ◌*◌, ◌/◌, ◌%◌, ◌≤◌, ◌<◌}
use native.Mathlib.Decide.{dec_lt}
use native.Mathlib.Omega.{arith}
use borrow.Author.Tests.{lt-ltb, le-ltb}
use lib.Bits.{bit_xor, xor_zero_r}
use lib.Dec.{ltb, lit<}
use lib.ListN.{length, replicate, length-append, get_or-append}
use Rattle.bits.specs.Bytes.{bytes_of}
use Rattle.bits.specs.Encodings.{encode, decode, plain_encoding}
use Rattle.bits.specs.Groups.{joined, group}
use Rattle.bits.specs.Lists.{at, tabulate}
use Rattle.bits.specs.Nibbles.{pack, nibble}
use Rattle.bits.proofs.laws.Nibbles.{at_packed}
use Rattle.matrices.specs.Matrices.{identity}
use Rattle.matrices.proofs.laws.Cases as bits
use Rattle.matrices.proofs.laws.Matrices.{product_zero, product_identity}
use Rattle.field.specs.Field.{xtime, times, mul}
use Rattle.field.specs.Sbox.{sbox_of}
use Rattle.field.proofs.laws.Cases as field
use Rattle.round.specs.Key.{KeyExpansion, expand, next_word_of}
use Rattle.round.specs.State.{mix_rows}
use Rattle.round.proofs.laws.Key.{key_at}
use Rattle.bundle.specs.Format.{encodings, byte_matrices, column_matrices, encoding_of, byte_matrix, column_matrix}
use Rattle.bundle.proofs.laws.Built.{plain_built}
use Rattle.judgement.proofs.laws.Cases as bundle
use Rattle.judgement.proofs.laws.Witness.{ten_fits}
use Rattle.network.specs.Numbers.{Numbers}
use Rattle.network.specs.Tables.{spread_entry, spread_table, xor_entry, xor_table, table_in}
use Rattle.layout.specs.Stages.{shifted, lookups, stage_of, index_of, numbers_of}
use Rattle.layout.specs.declared.stage.Stage.TheVariants.{First}
use Rattle.layout.proofs.laws.Cases as network
use Rattle.layout.proofs.laws.Ranges.{by_stage}
use Rattle.whitebox.specs.Bundles.{codings_of, parts_of, made_table}
use Rattle.whitebox.specs.Cases.{PlainBundle, Starred}
use Rattle.whitebox.specs.Codings.{Codings}
use Rattle.whitebox.specs.Parts.{forward}
use Rattle.whitebox.specs.Tables.{layer_of, layers, table_of}
use Rattle.whitebox.specs.Words.{substituted, first_word, mixed_word}

-- ---- the plain bundle's codings
plain : Codings
plain =
    record {
      encoding = λ n. plain_encoding;
      byte_matrix = λ n. identity 8;
      column_matrix = λ n. identity 32;
      input_matrix = identity 128;
      output_matrix = identity 128;
    }

-- In range what the bundle has, which is what stands behind the last number.
filled : (n m : ℕ) (a b : List ℕ) → (n < m → a ≡ b) → cond (ltb n m) a b ≡ b
filled n m a b e = elim (dec_lt n m) [
  | yes h ↦ rw (lt-ltb n m h) (e h)
  | no h ↦ rw (le-ltb n m (omega arith))
]

codings_plain : (l : List ℕ) → PlainBundle l → codings_of 10 l ≡ plain
unfolding codings_of plain
codings_plain l p = λ i. record {
  encoding = λ n. filled n (encodings 10) (encoding_of 10 l n) plain_encoding (p.lists n) i;
  byte_matrix = λ n. filled n (byte_matrices 10) (byte_matrix 10 l n) (identity 8) (p.bytes n) i;
  column_matrix = λ n. filled n (column_matrices 10) (column_matrix 10 l n) (identity 32) (p.columns n) i;
  input_matrix = p.input i;
  output_matrix = p.output i;
}

made : (c : ℕ) (key l : List ℕ) → PlainBundle l → (k : ℕ) → k < lookups 10
    → made_table c 4 key l k ≡ table_in (λ n. plain_encoding) (layer_of (parts_of c 4 key) plain 10 (stage_of 10 k)) (numbers_of 10 (stage_of 10 k)) (index_of 10 k)
unfolding made_table table_of layers plain
made c key l p k h =
    ap (λ (C : Codings). table_of (parts_of c 4 key) C 10 k) (codings_plain l p)
    ∙ (by_stage 10).table_is (λ n. plain_encoding) (layer_of (parts_of c 4 key) plain 10) (λ s. refl) k h

-- ---- XOR tables
-- Entry k of such a table, and byte i of it, which has the entries 2i and 2i + 1.
abbrev xor_at : ℕ → ℕ
xor_at k = encode plain_encoding (bit_xor (decode plain_encoding (k / 16)) (decode plain_encoding (k % 16)))

xor_byte : (m first x i v : ℕ) → i < 128 → pack (xor_at (2 * i)) (xor_at (2 * i + 1)) ≡ v
    → at (xor_table (λ n. plain_encoding) m first x) i ≡ v
unfolding xor_table xor_entry
xor_byte m first x i v h e = at_packed 128 _ i h ∙ e

first_entry : pack (xor_at 0) (xor_at 1) ≡ 0x01
unfolding plain_encoding tabulate decode
first_entry = refl

last_entry : pack (xor_at 254) (xor_at 255) ≡ 0x10
unfolding plain_encoding tabulate decode
last_entry = refl

xor_table_lem : (c : ℕ) (key l : List ℕ) → PlainBundle l → (k : ℕ) → k < lookups 10 → 16 ≤ index_of 10 k
    → (at (made_table c 4 key l k) 0 ≡ 0x01) × (at (made_table c 4 key l k) 127 ≡ 0x10)
xor_table_lem c key l p k h x =
    let s = stage_of 10 k in
    let L = layer_of (parts_of c 4 key) plain 10 s in
    let N = numbers_of 10 s in
    let t : made_table c 4 key l k ≡ xor_table (λ n. plain_encoding) L.width N.first (index_of 10 k - 16) = made c key l p k h ∙ behind L N (index_of 10 k) x in (
      ap (λ (u : List ℕ). at u 0) t ∙ xor_byte L.width N.first (index_of 10 k - 16) 0 1 (lit< tt) first_entry,
      ap (λ (u : List ℕ). at u 127) t ∙ xor_byte L.width N.first (index_of 10 k - 16) 127 16 (lit< tt) last_entry,
    )
  where
    behind : (L : Rattle.network.specs.Tables.Layer) (N : Numbers) (j : ℕ) → 16 ≤ j
        → table_in (λ n. plain_encoding) L N j ≡ xor_table (λ n. plain_encoding) L.width N.first (j - 16)
    behind L N j h = unfold table_in in rw (le-ltb j 16 h)

-- ---- table 496
zero_key : List ℕ
zero_key = replicate 16 0

abbrev word : List ℕ
word = 0xc6 ∷ 0x63 ∷ 0x63 ∷ 0xa5 ∷ []

-- The round keys begin with the key.
key_first : (nk : ℕ) (key : List ℕ) (n i : ℕ) → i < length key → (i < length (expand nk key n)) × (at (expand nk key n) i ≡ at key i)
unfolding expand
key_first nk key zero i h = (h, refl)
key_first nk key (suc n) i h =
    let r = key_first nk key n i h in (
      omega (arith, length-append (expand nk key n) (next_word_of nk (nk + n) (expand nk key n)), r.0),
      get_or-append (expand nk key n) (next_word_of nk (nk + n) (expand nk key n)) 0 i r.0 ∙ r.1,
    )

before_is : (parts_of 0 4 zero_key).before 1 ((parts_of 0 4 zero_key).reads 0) ≡ 0
unfolding forward shifted KeyExpansion zero_key
before_is = key_at (KeyExpansion 4 zero_key) 0 0 (lit< tt) ∙ (key_first 4 zero_key 40 0 (lit< tt)).1

behind_is : (parts_of 0 4 zero_key).behind 1 0 ≡ 0
unfolding forward
behind_is = refl

substituted_is : substituted (parts_of 0 4 zero_key) plain 1 0 0 ≡ 0x63
unfolding substituted
substituted_is =
    ap₂ (λ (x y : ℕ). bit_xor ((parts_of 0 4 zero_key).substitute (bit_xor x y)) ((parts_of 0 4 zero_key).behind 1 0)) (product_zero 8 _) before_is
    ∙ ap (λ (z : ℕ). bit_xor ((parts_of 0 4 zero_key).substitute 0) z) behind_is
    ∙ (unfold forward in xor_zero_r (sbox_of 0) ∙ (field.cases).s_00)

-- The width 32 is not computed: a product by the identity is known by its law.
word_is : first_word (parts_of 0 4 zero_key) plain 1 0 0 ≡ word
word_is = ap (mixed_word (parts_of 0 4 zero_key) plain 1 0) substituted_is ∙ mixed_is
  where
    mixed_is : mixed_word (parts_of 0 4 zero_key) plain 1 0 0x63 ≡ word
    mixed_is = unfold mixed_word forward plain bytes_of tabulate joined group mul times xtime mix_rows in ap (bytes_of 4) (product_identity 32 0xc66363a5 (lit< tt)) ∙ refl

-- Byte i of the first word.
entry_byte : (i v : ℕ) → i < 4
    → pack (encode plain_encoding (nibble word (2 * i % 8))) (encode plain_encoding (nibble word ((2 * i + 1) % 8))) ≡ v
    → (N : Numbers) → at (spread_table (λ n. plain_encoding) (layer_of (parts_of 0 4 zero_key) plain 10 (First 1)) N 0) i ≡ v
unfolding spread_table
entry_byte i v h e N =
    let x : 2 * i / 8 ≡ 0 = omega arith in
    let y : (2 * i + 1) / 8 ≡ 0 = omega arith in
    at_packed 1024 _ i (omega arith)
    ∙ rw (x, y) (ap₂ pack (half N (2 * i % 8)) (half N ((2 * i + 1) % 8)) ∙ e)
  where
    half : (N : Numbers) (h : ℕ) → spread_entry (λ n. plain_encoding) (layer_of (parts_of 0 4 zero_key) plain 10 (First 1)) N 0 0 h ≡ encode plain_encoding (nibble word h)
    half N h =
        unfold spread_entry plain_encoding tabulate decode in
        ap (λ (l : List ℕ). encode plain_encoding (nibble l h)) word_is

entry_0 : (l : List ℕ) → PlainBundle l
    → let t : List ℕ = made_table 0 4 (replicate 16 0) l 496 in
    (at t 0 ≡ 0xc6) × (at t 1 ≡ 0x63) × (at t 2 ≡ 0x63) × (at t 3 ≡ 0xa5)
unfolding zero_key
entry_0 l p =
    let N = numbers_of 10 (First 1) in
    let e : made_table 0 4 (replicate 16 0) l 496 ≡ spread_table (λ n. plain_encoding) (layer_of (parts_of 0 4 zero_key) plain 10 (First 1)) N 0 =
    made 0 (replicate 16 0) l p 496 (omega (arith, (network.starred).all_lookups)) ∙ table_here in
    let byte : (i : ℕ) → at (made_table 0 4 (replicate 16 0) l 496) i ≡ at (spread_table (λ n. plain_encoding) (layer_of (parts_of 0 4 zero_key) plain 10 (First 1)) N 0) i =
    λ i. ap (λ (u : List ℕ). at u i) e in (
      byte 0 ∙ entry_byte 0 0xc6 (lit< tt) shown_0 N,
      byte 1 ∙ entry_byte 1 0x63 (lit< tt) shown_1 N,
      byte 2 ∙ entry_byte 2 0x63 (lit< tt) shown_2 N,
      byte 3 ∙ entry_byte 3 0xa5 (lit< tt) shown_3 N,
    )
  where
    table_here : table_in (λ n. plain_encoding) (layer_of (parts_of 0 4 zero_key) plain 10 (stage_of 10 496)) (numbers_of 10 (stage_of 10 496)) (index_of 10 496)
        ≡ spread_table (λ n. plain_encoding) (layer_of (parts_of 0 4 zero_key) plain 10 (First 1)) (numbers_of 10 (First 1)) 0
    table_here = unfold stage_of index_of table_in in refl

    shown_0 : pack (encode plain_encoding (nibble word 0)) (encode plain_encoding (nibble word 1)) ≡ 0xc6
    shown_0 = unfold nibble plain_encoding tabulate in refl

    shown_1 : pack (encode plain_encoding (nibble word 2)) (encode plain_encoding (nibble word 3)) ≡ 0x63
    shown_1 = unfold nibble plain_encoding tabulate in refl

    shown_2 : pack (encode plain_encoding (nibble word 4)) (encode plain_encoding (nibble word 5)) ≡ 0x63
    shown_2 = unfold nibble plain_encoding tabulate in refl

    shown_3 : pack (encode plain_encoding (nibble word 6)) (encode plain_encoding (nibble word 7)) ≡ 0xa5
    shown_3 = unfold nibble plain_encoding tabulate in refl

pub starred : Starred
starred =
    record {
      s_00 = (field.cases).s_00;
      s_53 = (field.cases).s_53;
      two_times_57 = (field.cases).p_02_57;
      position_1 = (network.starred).position_1;
      position_13 = (network.starred).position_13;
      table_16 = (network.starred).table_16;
      table_496 = (network.starred).table_496;
      table_3007 = (network.starred).table_3007;
      reversed = (bits.cases).reversed;
      plain = (plain_built 10 ten_fits).1;
      xor_table_lem = xor_table_lem;
      entry_0 = entry_0;
      list_0 = bundle.list_0;
      byte_159 = bundle.byte_159;
      faulty_159 = bundle.faulty_159;
    }
