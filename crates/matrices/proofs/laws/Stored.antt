-- Laws, not definitions: matrices as bytes and back, and read into rows of words.
-- Assumes nothing.
use mathlib.Core.List.{List}
use mathlib.Core.Path.{◌≡◌, sym, ap, ap₂, ◌∙◌, subst}
use Prim.Native.Nat.{ℕ, zero, suc, ◌+◌, ◌-◌, ◌*◌, ◌/◌, ◌%◌, ◌^◌, ◌≤◌, ◌<◌}
use native.Mathlib.Nat.{div-add-mod', div-lt_iff_lt-mul, mod-lt, zero-lt-suc}
use native.Mathlib.Omega.{arith}
use lib.ListN.{length}
use Rattle.bits.specs.Bytes.{Bytes, number, byte, bytes_of, placed}
use Rattle.bits.specs.Lists.{at}
use Rattle.bits.specs.Vectors.{dot}
use Rattle.bits.proofs.laws.Bytes.{length_bytes_of, at_bytes_of, bytes_of_bytes, placed_power}
use Rattle.bits.proofs.laws.Groups.{joined_lt, joined_same, joined_group, group_joined}
use Rattle.bits.proofs.laws.Lists.{tabulate_at, length_tabulate, at_tabulate, ext_at, concat_same, concat_below, length_concat, at_concat}
use Rattle.bits.proofs.laws.Multiples.{row_inside}
use Rattle.bits.proofs.laws.Parts.{Parts, parts_all}
use Rattle.bits.proofs.laws.Vectors.{bit_group, bit_shift, dot_unit}
use Rattle.matrices.specs.Rows.{row_at, rows_of, stored}
use Rattle.matrices.proofs.laws.Rows.{rows_stored, at_rows_of}
use Rattle.matrices.specs.Matrices.{RowsFit, matrix_of, matrix_bytes}

pub matrix_of_length : (w : ℕ) (s : List ℕ) → length (matrix_of w s) ≡ 8 * w
unfolding matrix_of
matrix_of_length w s = length_tabulate (8 * w) _

pub matrix_of_at : (w : ℕ) (s : List ℕ) (i : ℕ) → i < 8 * w → at (matrix_of w s) i ≡ number w (λ j. at s (i * w + j))
unfolding matrix_of
matrix_of_at w s i h = at_tabulate (8 * w) _ i h

pub matrix_of_fits : (w : ℕ) (s : List ℕ) → Bytes s → RowsFit (8 * w) (at (matrix_of w s))
matrix_of_fits w s b i h =
    subst (λ (x : ℕ). x < 2 ^ (8 * w)) (sym (matrix_of_at w s i h)) (joined_lt 8 w (λ j. at s (i * w + j)) (λ j l. b (i * w + j)))

rows_long : (w : ℕ) (m : List ℕ) (i : ℕ) → i < 8 * w → length (bytes_of w (at m i)) ≡ w
rows_long w m i h = length_bytes_of w (at m i)

pub length_matrix_bytes : (w : ℕ) (m : List ℕ) → length (matrix_bytes w m) ≡ 8 * w * w
unfolding matrix_bytes
length_matrix_bytes w m = length_concat w (λ i. bytes_of w (at m i)) (8 * w) (rows_long w m)

pub matrix_bytes_bytes : (w : ℕ) (m : List ℕ) → Bytes (matrix_bytes w m)
unfolding matrix_bytes
matrix_bytes_bytes w m = concat_below 256 (8 * w) _ (omega arith) (λ i h. bytes_of_bytes w (at m i))

matrix_bytes_at : (w : ℕ) (m : List ℕ) (i j : ℕ) → i < 8 * w → j < w → at (matrix_bytes w m) (i * w + j) ≡ byte w j (at m i)
unfolding matrix_bytes
matrix_bytes_at w m i j h l = at_concat w (λ i. bytes_of w (at m i)) (8 * w) (rows_long w m) i j h l ∙ at_bytes_of w (at m i) j l

-- A matrix is the one that its bytes write.
pub matrix_of_bytes : (w : ℕ) (m : List ℕ) → length m ≡ 8 * w → RowsFit (8 * w) (at m) → matrix_of w (matrix_bytes w m) ≡ m
matrix_of_bytes w m e f =
    ext_at (8 * w) (matrix_of w (matrix_bytes w m)) m (matrix_of_length w (matrix_bytes w m)) e (λ i h.
    matrix_of_at w (matrix_bytes w m) i h
    ∙ joined_same 8 w _ _ (λ j l. matrix_bytes_at w m i j h l)
    ∙ joined_group 8 w (at m i) (f i h))

-- Bytes are those of the matrix that they write.
pub matrix_bytes_of : (w : ℕ) (s : List ℕ) → length s ≡ 8 * w * w → Bytes s → matrix_bytes w (matrix_of w s) ≡ s
matrix_bytes_of zero s e b = ext_at 0 (matrix_bytes zero (matrix_of zero s)) s (length_matrix_bytes zero (matrix_of zero s)) e (λ i h. absurd (omega arith))
matrix_bytes_of (suc u) s e b =
    ext_at (8 * w * w) (matrix_bytes w (matrix_of w s)) s (length_matrix_bytes w (matrix_of w s)) e (λ k h.
    subst (λ (x : ℕ). at (matrix_bytes w (matrix_of w s)) x ≡ at s x) (div-add-mod' k w)
    (there (k / w) (k % w) ((div-lt_iff_lt-mul {k = w} {x = k} {y = 8 * w} (zero-lt-suc u)).1 h) (mod-lt k (zero-lt-suc u))))
  where
    w : ℕ
    w = suc u

    there : (i j : ℕ) → i < 8 * w → j < w → at (matrix_bytes w (matrix_of w s)) (i * w + j) ≡ at s (i * w + j)
    there i j h l =
        matrix_bytes_at w (matrix_of w s) i j h l
        ∙ ap (byte w j) (matrix_of_at w s i h)
        ∙ group_joined 8 w (λ j. at s (i * w + j)) (λ j q. b (i * w + j)) j l

-- A matrix that was read from bytes is the one that they write.
pub read_rows : (w : ℕ) (p m m' : List ℕ) → 16 * w ≤ length m → m' ≡ stored (8 * w) (at (matrix_of w p)) m → rows_of (8 * w) m' ≡ matrix_of w p
read_rows w p m m' h e =
    ap (rows_of (8 * w)) e ∙ rows_stored (8 * w) (at (matrix_of w p)) m (omega arith) ∙ tabulate_at (8 * w) (matrix_of w p) (matrix_of_length w p)

-- ---- as the code reads and writes them
-- The w bytes of row i lie within those of the matrix.
pub row_within : (i w : ℕ) → i < 8 * w → i * w + w ≤ 8 * w * w
row_within i w h = row_inside i w (8 * w) h

pub row_read : (w : ℕ) (s : List ℕ) (i v : ℕ) → i < 8 * w → v ≡ number w (λ j. at s (i * w + j)) → v ≡ at (matrix_of w s) i
row_read w s i v h e = e ∙ sym (matrix_of_at w s i h)

pub row_written : (w : ℕ) (m : List ℕ) (i v k : ℕ) (ys : List ℕ) → v ≡ row_at m i → k ≡ w → ys ≡ bytes_of k v → ys ≡ bytes_of w (row_at m i)
row_written w m i v k ys e l is = is ∙ ap₂ bytes_of l e

pub matrix_written : (w : ℕ) (m d₀ d : List ℕ) (i : ℕ) → Parts (8 * w) w (λ r. bytes_of w (row_at m r)) d₀ d i → 8 * w ≤ i
    → length d₀ ≡ 8 * w * w → d ≡ matrix_bytes w (rows_of (8 * w) m)
unfolding matrix_bytes
matrix_written w m d₀ d i g h e =
    parts_all g h e ∙ concat_same (8 * w) _ _ (λ r l. ap (bytes_of w) (sym (at_rows_of (8 * w) m r l)))

-- Digit k of byte i of row r, of w bytes to a row: the row's parity with 2^k at that byte.
pub written_digit : (w : ℕ) (s : List ℕ) (i k r : ℕ) → Bytes s → i < w → k < 8 → r < 8 * w
    → at s (r * w + i) / 2 ^ k % 2 ≡ dot (at (matrix_of w s) r) (placed w i (2 ^ k))
written_digit w s i k r b hi hk hr =
    let v = at (matrix_of w s) r in
    let digit : 8 - suc (7 - k) ≡ k = omega arith in
    let place : 8 * w - suc (8 * i + (7 - k)) ≡ 8 * (w - 1 - i) + k = omega arith in
    sym (ap (dot v) (sym (ap (λ (x : ℕ). 2 ^ x) place ∙ placed_power w i k hi))
    ∙ dot_unit (8 * w) (8 * i + (7 - k)) v
    ∙ sym (bit_group 8 w i (7 - k) v hi (omega arith))
    ∙ bit_shift 8 (7 - k) (byte w i v)
    ∙ ap (λ (x : ℕ). byte w i v / 2 ^ x % 2) digit
    ∙ ap (λ (x : ℕ). x / 2 ^ k % 2)
    (ap (byte w i) (matrix_of_at w s r hr) ∙ group_joined 8 w (λ j. at s (r * w + j)) (λ j q. b (r * w + j)) i hi))
