-- Laws, not definitions: matrices as rows of words.
-- Assumes nothing.
use mathlib.Core.List.{List}
use mathlib.Core.Logic.{◌≢◌}
use mathlib.Core.Path.{◌≡◌, refl, sym, ap, ap₂, ◌∙◌}
use Prim.Native.Nat.{ℕ, zero, suc, ◌+◌, ◌-◌, ◌*◌, ◌/◌, ◌%◌, ◌^◌, ◌≤◌, ◌<◌}
use native.Mathlib.Decide.{ℕ_discrete, dec_lt}
use native.Mathlib.Nat.{mod-eq_of_lt}
use native.Mathlib.Numerals.{add-one}
use native.Mathlib.Omega.{arith}
use lib.ListN.{length, set, length-set}
use lib.Seq.{get_or-set_same, get_or-set_other}
use Rattle.bits.specs.Lists.{at, tabulate}
use Rattle.bits.specs.Vectors.{dot}
use Rattle.bits.specs.Words.{wide}
use Rattle.bits.proofs.laws.Joined.{Joined, joined_all}
use Rattle.bits.proofs.laws.Lists.{tabulate_ext, at_tabulate}
use Rattle.bits.proofs.laws.Vectors.{dot_comm, dot_power}
use Rattle.bits.proofs.laws.Words.{wide_split, wide_high, wide_low, bits_low, bits_high}
use Rattle.matrices.specs.Matrices.{product_by, product}
use Rattle.matrices.specs.Rows.{row_at, rows_of, set_row, stored}
use Rattle.matrices.proofs.laws.Matrices.{product_rows}

pub row_set_same : (m : List ℕ) (i v : ℕ) → 2 * i + 1 < length m → row_at (set_row m i v) i ≡ v
unfolding row_at set_row
row_set_same m i v h =
    let a = set m (2 * i) (v / 2 ^ 64) in
    ap₂ wide
    (get_or-set_other a (2 * i + 1) (2 * i) (v % 2 ^ 64) 0 (omega arith) ∙ get_or-set_same m (2 * i) (v / 2 ^ 64) 0 (omega arith))
    (get_or-set_same a (2 * i + 1) (v % 2 ^ 64) 0 (omega (arith, length-set m (2 * i) (v / 2 ^ 64))))
    ∙ wide_split v

pub row_set_other : (m : List ℕ) (i v j : ℕ) → j ≢ i → row_at (set_row m i v) j ≡ row_at m j
unfolding row_at set_row
row_set_other m i v j e =
    let a = set m (2 * i) (v / 2 ^ 64) in
    ap₂ wide
    (get_or-set_other a (2 * i + 1) (2 * j) (v % 2 ^ 64) 0 (omega arith) ∙ get_or-set_other m (2 * i) (2 * j) (v / 2 ^ 64) 0 (omega arith))
    (get_or-set_other a (2 * i + 1) (2 * j + 1) (v % 2 ^ 64) 0 (omega arith) ∙ get_or-set_other m (2 * i) (2 * j + 1) (v / 2 ^ 64) 0 (omega arith))

pub length_set_row : (m : List ℕ) (i v : ℕ) → length (set_row m i v) ≡ length m
unfolding set_row
length_set_row m i v = simp length-set

-- The words of a row, stored.
pub set_words : (m : List ℕ) (i hi lo : ℕ) → lo < 2 ^ 64 → set (set m (2 * i) hi) (2 * i + 1) lo ≡ set_row m i (wide hi lo)
unfolding set_row
set_words m i hi lo h =
    sym (ap₂ (λ (x y : ℕ). set (set m (2 * i) x) (2 * i + 1) y) (wide_high hi lo h) (wide_low hi lo h))

pub stored_next : (n : ℕ) (f : ℕ → ℕ) (m : List ℕ) → stored (n + 1) f m ≡ set_row (stored n f m) n (f n)
unfolding stored
stored_next n f m = ap (λ (x : ℕ). stored x f m) (add-one n)

pub length_stored : (n : ℕ) (f : ℕ → ℕ) (m : List ℕ) → length (stored n f m) ≡ length m
unfolding stored
length_stored zero f m = refl
length_stored (suc n) f m = length_set_row (stored n f m) n (f n) ∙ length_stored n f m

pub row_stored : (n : ℕ) (f : ℕ → ℕ) (m : List ℕ) → 2 * n ≤ length m → (i : ℕ) → i < n → row_at (stored n f m) i ≡ f i
unfolding stored
row_stored zero f m h i l = absurd (omega arith)
row_stored (suc n) f m h i l = elim (ℕ_discrete i n) [
  | yes e ↦
      ap (row_at (set_row (stored n f m) n (f n))) e
      ∙ row_set_same (stored n f m) n (f n) (omega (arith, length_stored n f m))
      ∙ ap f (sym e)
  | no e ↦ row_set_other (stored n f m) n (f n) i e ∙ row_stored n f m (omega arith) i (omega arith)
]

-- Only the first n rows are read off again.
pub rows_stored : (n : ℕ) (f : ℕ → ℕ) (m : List ℕ) → 2 * n ≤ length m → rows_of n (stored n f m) ≡ tabulate n f
unfolding rows_of
rows_stored n f m h = tabulate_ext n _ _ (row_stored n f m h)

pub stored_same : (n : ℕ) (f g : ℕ → ℕ) (m : List ℕ) → ((i : ℕ) → i < n → f i ≡ g i) → stored n f m ≡ stored n g m
unfolding stored
stored_same zero f g m e = refl
stored_same (suc n) f g m e =
    ap₂ (λ (x : List ℕ) (y : ℕ). set_row x n y) (stored_same n f g m (λ i h. e i (omega arith))) (e n (omega arith))

pub at_rows_of : (n : ℕ) (m : List ℕ) (i : ℕ) → i < n → at (rows_of n m) i ≡ row_at m i
unfolding rows_of
at_rows_of n m i h = at_tabulate n (row_at m) i h

-- ---- a loop that stores n rows, row i being f i, one a turn: of the words m₀, which m has become, the first i rows are stored
pub record Stored (n : ℕ) (f : ℕ → ℕ) (m₀ m : List ℕ) (i : ℕ) : Type 0 where
  pub within : i ≤ n
  pub long : length m ≡ length m₀
  pub rows : m ≡ stored i f m₀

pub stored_none : {n : ℕ} {f : ℕ → ℕ} {m : List ℕ} → Stored n f m m 0
unfolding stored
stored_none = record { within = omega arith; long = refl; rows = refl }

module _ {n : ℕ} {f : ℕ → ℕ} {m₀ m : List ℕ} {i : ℕ} (g : Stored n f m₀ m i) where
  pub stored_more : {m' : List ℕ} {v : ℕ} → i < n → m' ≡ set_row m i v → v ≡ f i → Stored n f m₀ m' (i + 1)
  stored_more {v = v} h e is = record {
    within = omega arith;
    long = ap length e ∙ length_set_row m i v ∙ g.long;
    rows = e ∙ ap₂ (λ (x : List ℕ) (y : ℕ). set_row x i y) g.rows is ∙ sym (stored_next i f m₀);
  }

  pub stored_all : n ≤ i → m ≡ stored n f m₀
  stored_all h =
      let done : i ≡ n = omega arith in
      g.rows ∙ ap (λ (k : ℕ). stored k f m₀) done

-- ---- digit s of row i, from the bottom, in the one of the row's two words that holds it: the high one is first
pub column_bit : (m : List ℕ) (i s : ℕ) → s < 128 → at m (2 * i + 1) < 2 ^ 64 → at m (2 * i + (1 - s / 64)) / 2 ^ (s % 64) % 2 ≡ dot (row_at m i) (2 ^ s)
unfolding row_at
column_bit m i s h k =
    elim (dec_lt s 64) [
      | yes l ↦
          let low : 1 - s / 64 ≡ 1 = omega arith in
          rw (low, mod-eq_of_lt l) (bits_low 1 (at m (2 * i)) (at m (2 * i + 1)) s (omega arith))
      | no l ↦
          let high : 2 * i + (1 - s / 64) ≡ 2 * i = omega arith in
          let place : s % 64 ≡ s - 64 = omega arith in
          rw (high, place) (bits_high 1 (at m (2 * i)) (at m (2 * i + 1)) s (omega arith) k)
    ]
    ∙ sym (dot_comm (row_at m i) (2 ^ s) ∙ dot_power s (row_at m i))

-- ---- a loop that joins the parities of n rows and a vector is their product
pub joined_product : (n : ℕ) (f : ℕ → ℕ) (v p i : ℕ) → Joined 1 n (λ j. dot (f j) v) p i → n ≤ i → p ≡ product_by n f v
unfolding product_by
joined_product n f v p i g h = joined_all g h

pub multiplied : (n : ℕ) (m : List ℕ) (v p i : ℕ) → Joined 1 n (λ j. dot (row_at m j) v) p i → n ≤ i → p ≡ product n (rows_of n m) v
multiplied n m v p i g h = joined_product n (row_at m) v p i g h ∙ product_rows n (row_at m) (at (rows_of n m)) v (λ j l. sym (at_rows_of n m j l))
