-- Laws, not definitions: lists of rows of any kind, f being the number of a row, as they are read and eliminated.
-- Assumes nothing.
use mathlib.Core.List.{List}
use mathlib.Core.Path.{◌≡◌, refl, sym, ◌∙◌, subst}
use Prim.Native.Nat.{ℕ, ◌+◌, ◌-◌, ◌*◌, ◌/◌, ◌%◌, ◌^◌, ◌≤◌, ◌<◌}
use native.Mathlib.Nat.{mod-eq_of_lt, lt_of_lt_of_le}
use native.Mathlib.Omega.{arith}
use lib.Bits.{bit_xor}
use lib.ListN.{length, get_or, set, length-set}
use lib.Pow.{pow_mono}
use Rattle.bits.specs.Bytes.{number}
use Rattle.bits.specs.Lists.{at, tabulate}
use Rattle.bits.specs.Words.{wide}
use Rattle.bits.proofs.laws.Groups.{joined_lt}
use Rattle.bits.proofs.laws.Lists.{tabulate_ext, tabulate_at}
use Rattle.bits.proofs.laws.Words.{wide_low}
use Rattle.matrices.specs.Matrices.{matrix_of}
use Rattle.matrices.proofs.laws.Stored.{matrix_of_length, row_read}
use Rattle.inversion.specs.Work.{row_in}
use Rattle.inversion.proofs.laws.Loops.{side_started}
use Rattle.inversion.proofs.laws.Rows.{row_is, row_put}
use Rattle.invertible.specs.Forward.{ClearedBehind}
use Rattle.invertible.proofs.laws.Forward.{Clearing, clearing_none, clearing_more, clearing_all}

-- A vector of 64 bits is its low word.
pub low_word : (hi lo : ℕ) → lo < 2 ^ 64 → wide hi lo < 2 ^ 64 → lo ≡ wide hi lo
low_word hi lo word small = sym (wide_low hi lo word) ∙ mod-eq_of_lt small

-- A row of w bytes has at most `most` digits.
pub read_small : (w v most : ℕ) (f : ℕ → ℕ) → 8 * w ≤ most → v ≡ number w f → ((j : ℕ) → f j < 256) → v < 2 ^ most
read_small w v most f few e bytes =
    subst (λ (x : ℕ). x < 2 ^ most) (sym e) (lt_of_lt_of_le (joined_lt 8 w f (λ j h. bytes j)) (pow_mono few))

-- ---- the reading: the first i rows are those of the matrix that the bytes p write
pub record Taken {R : Type 0} (f : R → ℕ) (w : ℕ) (p : List ℕ) (m₀ m : List R) (i : ℕ) : Type 0 where
  pub within : i ≤ 8 * w
  pub long : length m ≡ length m₀
  pub rows : (j : ℕ) → j < i → row_in f m j ≡ at (matrix_of w p) j

module _ {R : Type 0} {f : R → ℕ} {w : ℕ} {p : List ℕ} {m₀ m : List R} {i : ℕ} (g : Taken f w p m₀ m i) where
  -- v is row i as it was read, and x the row that is stored.
  pub taken_more : {v : ℕ} {x : R} → 8 * w ≤ length m₀ → i < 8 * w → v ≡ number w (λ j. at p (i * w + j)) → f x ≡ v → Taken f w p m₀ (set m i x) (i + 1)
  taken_more {v} {x} room h row is =
      let long-m = g.long in
      let there : i < length m = omega arith in
      record {
        within = omega arith;
        long = length-set m i x ∙ long-m;
        rows = side_started (at (matrix_of w p)) _ _ i (f x) g.rows (is ∙ row_read w p i v h row) (row_put f m i x there);
      }

  pub taken_all : 8 * w ≤ i → tabulate (8 * w) (row_in f m) ≡ matrix_of w p
  taken_all h = tabulate_ext (8 * w) _ _ (λ j l. g.rows j (omega arith)) ∙ tabulate_at (8 * w) (matrix_of w p) (matrix_of_length w p)

-- ---- the clearing of column k: the rows m₀ have become m, and `top` is added to a row
pub record Rows {R : Type 0} (f : R → ℕ) (n k p : ℕ) (m₀ : List R) (top : R) (m : List R) (i : ℕ) : Type 0 where
  pub rows : Clearing n k p (row_in f m₀) (f top) (row_in f m) i
  pub long : length m ≡ length m₀

-- x is row k, b its bit k, and q row p.
pub rows_none : {R : Type 0} (f : R → ℕ) {n k p : ℕ} (m : List R) {x q top : R} {b : ℕ} → n ≤ length m → k < n → p < n
    → x ≡ get_or m k x → b ≡ f x / 2 ^ (n - 1 - k) % 2 → q ≡ get_or m p q → f top ≡ bit_xor (f x) ((1 - b) % 2 * f q)
    → Rows f n k p m top m (k + 1)
rows_none f {n} {k} {p} m {x} {q} room hk hp row digit other added =
    let there : k < length m = omega arith in
    let found : p < length m = omega arith in
    record { rows = clearing_none hk (row_is f m k x there row) digit (row_is f m p q found other) added; long = refl }

module _ {R : Type 0} {f : R → ℕ} {n k p : ℕ} {m₀ : List R} {top : R} {m : List R} {i : ℕ} (g : Rows f n k p m₀ top m i) where
  -- x is row i, b its bit k, and y the row that is stored.
  pub rows_more : {x y : R} {b : ℕ} → n ≤ length m₀ → i < n → x ≡ get_or m i x → b ≡ f x / 2 ^ (n - 1 - k) % 2
      → f y ≡ bit_xor (f x) (b % 2 * f top)
      → Rows f n k p m₀ top (set m i y) (i + 1)
  rows_more {x} {y} room h row digit added =
      let long-m = g.long in
      let there : i < length m = omega arith in
      record {
        rows = clearing_more g.rows h (row_is f m i x there row) digit added (row_put f m i y there);
        long = length-set m i y ∙ long-m;
      }

  pub rows_all : n ≤ i → ClearedBehind n k p (row_in f m₀) (row_in f m)
  rows_all = clearing_all g.rows
