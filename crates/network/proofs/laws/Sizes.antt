-- Laws, not definitions: the size and kind of a table; offsets add up, and each table is the part of the concatenation of all tables at its
-- offset.
-- Assumes nothing.
use mathlib.Core.Bool.{Bool, true, false, cond}
use mathlib.Core.List.{List, [], ◌∷◌}
use mathlib.Core.Path.{◌≡◌, refl, sym, ap, ◌∙◌}
use Prim.Native.Nat.{ℕ, suc, ◌+◌, ◌-◌, ◌*◌, ◌≤◌, ◌<◌, min}
use native.Mathlib.Decide.{dec_lt}
use native.Mathlib.Nat.{not-suc-le-zero, le_refl}
use native.Mathlib.Omega.{arith}
use borrow.Author.Tests.{lt-ltb, le-ltb}
use lib.Dec.{ltb}
use lib.ListN.{length, take, drop}
use Rattle.bits.proofs.laws.Nibbles.{length_packed}
use Rattle.bits.proofs.laws.Offsets.{concat_length, concat_part}
use Rattle.bits.specs.Lists.{concat}
use Rattle.network.specs.Numbers.{Numbers, next_numbers}
use Rattle.network.specs.Order.{xors, layer_lookups}
use Rattle.network.specs.Sizes.{size_of, offset_of, layer_bytes, lookups_in, bytes_in, size_in_of, offset_in}
use Rattle.network.specs.Tables.{Layer, widths_of, spread_table, xor_table, table_in, table_at}
use Rattle.network.specs.Theorems.{TableParts}
use Rattle.network.proofs.laws.Layers.{offset_none}
use Rattle.network.proofs.laws.Order.{layer_lookups_lem}

-- ---- the two kinds of table: the first 16 of a layer are spread tables, the others XOR tables
pub spread_size : (m j : ℕ) → j < 16 → size_of m j ≡ 256 * m
spread_size m j h = rw (lt-ltb j 16 h)

pub xor_size : (m j : ℕ) → 16 ≤ j → size_of m j ≡ 128
xor_size m j h = rw (le-ltb j 16 h)

module _ (E : ℕ → List ℕ) (L : Layer) (N : Numbers) (j : ℕ) (table : List ℕ) where
  pub table_spread : j < 16 → table ≡ spread_table E L N j → table ≡ table_in E L N j
  unfolding table_in
  table_spread h e = rw (lt-ltb j 16 h) e

  pub table_xor : (m first : ℕ) → 16 ≤ j → m ≡ L.width → first ≡ N.first → table ≡ xor_table E m first (j - 16) → table ≡ table_in E L N j
  unfolding table_in
  table_xor m first h width number e = rw (le-ltb j 16 h) (rw (width, number) at e)

-- ---- inside a layer
offset_next : (m j : ℕ) → offset_of m (suc j) ≡ offset_of m j + size_of m j
offset_next m j = go (dec_lt j 16)
  where
    go : Dec (j < 16) → offset_of m (suc j) ≡ offset_of m j + size_of m j
    go (yes a) =
        let e : min (suc j) 16 ≡ suc j = omega arith in
        let f : min j 16 ≡ j = omega arith in
        rw (lt-ltb j 16 a, e, f) (omega arith)
    go (no a) =
        let e : min (suc j) 16 ≡ 16 = omega arith in
        let f : min j 16 ≡ 16 = omega arith in
        rw (le-ltb j 16 (omega arith), e, f) (omega arith)

offset_all : (m : ℕ) → offset_of m (layer_lookups m) ≡ layer_bytes m
unfolding layer_bytes
offset_all m =
    let e : min (layer_lookups m) 16 ≡ 16 = omega (arith, layer_lookups_lem m) in
    let f : layer_lookups m - 16 ≡ xors m = omega (arith, layer_lookups_lem m) in
    rw (e, f)

-- ---- in layers one after the other
pub offset_zero : (ms : List ℕ) → offset_in ms 0 ≡ 0
unfolding offset_in
offset_zero [] = refl
offset_zero (m ∷ ms) = rw (lt-ltb 0 (layer_lookups m) (omega (arith, layer_lookups_lem m))) (omega arith)

pub offset_suc : (ms : List ℕ) (k : ℕ) → k < lookups_in ms → offset_in ms (suc k) ≡ offset_in ms k + size_in_of ms k
unfolding offset_in size_in_of lookups_in
offset_suc [] k h = absurd (not-suc-le-zero h)
offset_suc (m ∷ ms) k h = go (dec_lt (suc k) T) (dec_lt k T) (λ a. offset_suc ms (k - T) a)
  where
    T : ℕ
    T = layer_lookups m

    go : Dec (suc k < T) → Dec (k < T) → (k - T < lookups_in ms → offset_in ms (suc (k - T)) ≡ offset_in ms (k - T) + size_in_of ms (k - T))
        → offset_in (m ∷ ms) (suc k) ≡ offset_in (m ∷ ms) k + size_in_of (m ∷ ms) k
    go (yes a) b ih = rw (lt-ltb (suc k) T a, lt-ltb k T (omega arith)) (offset_next m k)
    go (no a) (yes b) ih =
        let e : suc k - T ≡ 0 = omega arith in
        let f : T ≡ suc k = omega arith in
        rw (le-ltb (suc k) T (omega arith), lt-ltb k T b, e)
        (ap (λ (x : ℕ). layer_bytes m + x) (offset_zero ms)
        ∙ (let z : layer_bytes m + 0 ≡ layer_bytes m = omega arith in z)
        ∙ sym (offset_all m) ∙ ap (offset_of m) f ∙ offset_next m k)
    go (no a) (no b) ih =
        let e : suc k - T ≡ suc (k - T) = omega arith in
        rw (le-ltb (suc k) T (omega arith), le-ltb k T (omega arith), e) (omega (arith, ih (omega arith)))

-- ---- the tables
length_cond : (b : Bool) (x y : List ℕ) (n m : ℕ) → length x ≡ n → length y ≡ m → length (cond b x y) ≡ cond b n m
length_cond true x y n m p q = p
length_cond false x y n m p q = q

module _ (E : ℕ → List ℕ) where
  pub length_table_in : (L : Layer) (N : Numbers) (j : ℕ) → length (table_in E L N j) ≡ size_of L.width j
  unfolding table_in spread_table xor_table
  length_table_in L N j =
      length_cond (ltb j 16) (spread_table E L N j) (xor_table E L.width N.first (j - 16)) (256 * L.width) 128
      (length_packed (256 * L.width) _) (length_packed 128 _)

  pub length_table : (Ls : List Layer) (N : Numbers) (k : ℕ) → length (table_at E Ls N k) ≡ size_in_of (widths_of Ls) k
  unfolding table_at size_in_of
  length_table [] N k = refl
  length_table (L ∷ Ls) N k =
      length_cond (ltb k (layer_lookups L.width)) (table_in E L N k) (table_at E Ls (next_numbers L.width N) (k - layer_lookups L.width))
      (size_of L.width k) (size_in_of (widths_of Ls) (k - layer_lookups L.width))
      (length_table_in L N k) (length_table Ls (next_numbers L.width N) (k - layer_lookups L.width))

-- ---- lists of the tables' sizes, one after the other: their whole, and each as a part of it
module _ (ms : List ℕ) (t : ℕ → List ℕ) (long : (k : ℕ) → k < lookups_in ms → length (t k) ≡ size_in_of ms k) where
  pub set_length : length (concat (lookups_in ms) t) ≡ bytes_in ms
  set_length =
      concat_length t (size_in_of ms) (offset_in ms) (lookups_in ms) (offset_zero ms) (offset_suc ms) long (lookups_in ms) (le_refl (lookups_in ms))
      ∙ offset_none ms (lookups_in ms) (le_refl (lookups_in ms))

  pub set_part : (k : ℕ) → k < lookups_in ms → take (size_in_of ms k) (drop (offset_in ms k) (concat (lookups_in ms) t)) ≡ t k
  set_part k h =
      concat_part t (size_in_of ms) (offset_in ms) (lookups_in ms) (offset_zero ms) (offset_suc ms) long (lookups_in ms) k h (le_refl (lookups_in ms))

pub table_parts : TableParts
table_parts E Ls N = (
  set_length (widths_of Ls) (table_at E Ls N) (λ k h. length_table E Ls N k),
  length_table E Ls N,
  set_part (widths_of Ls) (table_at E Ls N) (λ k h. length_table E Ls N k),
)
