-- Laws, not definitions: the rows of a basis, that is the words of the bytes 2^0 to 2^7, as a loop makes them.
-- Assumes nothing.
use mathlib.Core.List.{List}
use mathlib.Core.Path.{◌≡◌, refl, ap, ap₂, ◌∙◌}
use Prim.Native.Nat.{ℕ, ◌+◌, ◌-◌, ◌*◌, ◌^◌, ◌<◌}
use native.Mathlib.Omega.{arith}
use lib.ListN.{length}
use Rattle.bits.specs.Bytes.{number, byte}
use Rattle.bits.specs.Lists.{part_of}
use Rattle.bits.specs.Words.{wide}
use Rattle.bits.proofs.laws.Bytes.{placed_power}
use Rattle.bits.proofs.laws.Words.{wide_alone}
use Rattle.matrices.specs.Matrices.{product, matrix_of}
use Rattle.matrices.specs.Rows.{rows_of}
use Rattle.bundle.specs.Format.{byte_matrices, part_count, part_size, section_length, frame, section_of, part_at, byte_matrix}
use Rattle.bundle.proofs.laws.Frame.{section_length_lem}
use Rattle.layers.specs.Layers.{spread_word}
use Rattle.answers.specs.Answer.{Accepted}

-- ---- row k of first halves
-- m is the matrix as the code has read it, y is 2^k, x the vector that f makes of y, v their product: a low word alone.
pub mixed_row : (p m : List ℕ) (f : ℕ → ℕ) (k y x v : ℕ) → m ≡ matrix_of 4 p → y ≡ 2 ^ k → x ≡ f y → v ≡ product 32 m x
    → wide 0 v ≡ product 32 (matrix_of 4 p) (f (2 ^ k))
mixed_row p m f k y x v em ey ex ev = wide_alone v ∙ ev ∙ ap₂ (product 32) em (ex ∙ ap f ey)

-- ---- row k of the entry and of second halves
-- The section of the byte matrices, which has 8 bytes of each, `count` as the number that the code has.
pub byte_count : (nr : ℕ) → byte_matrices nr ≡ 16 * nr
unfolding byte_matrices
byte_count nr = refl

pub byte_section_long : (nr count : ℕ) (l s : List ℕ) → byte_matrices nr ≡ count → s ≡ section_of nr l 1 → frame nr l ≡ Accepted → length s ≡ count * 8
unfolding section_length part_count part_size
byte_section_long nr count l s n e f = ap length e ∙ section_length_lem nr l f 1 (omega arith) ∙ ap (λ (k : ℕ). k * 8) n

module _ (nr : ℕ) (l s : List ℕ) (e : s ≡ section_of nr l 1) where
  byte_matrices_in : ◌≡◌ {A = ℕ → List ℕ} (λ n. matrix_of 1 (part_of 8 s n)) (byte_matrix nr l)
  unfolding part_at part_size
  byte_matrices_in = ap {B = ℕ → List ℕ} (λ (t : List ℕ). λ (n : ℕ). matrix_of 1 (part_of 8 t n)) e

  -- v is the column of m at digit k of byte i, which is the product with 2^k there; r is its product with the byte matrices.
  pub spread_row : (m : List ℕ) (n i first k v r : ℕ) → i < n → v ≡ product (8 * n) (rows_of (8 * n) m) (2 ^ (8 * (n - 1 - i) + k))
      → r ≡ number n (λ j. product 8 (matrix_of 1 (part_of 8 s (first + j))) (byte n j v)) → r ≡ spread_word nr l (rows_of (8 * n) m) n i first (2 ^ k)
  spread_row m n i first k v r h ev er =
      let is = ev ∙ ap (product (8 * n) (rows_of (8 * n) m)) (placed_power n i k h) in
      er ∙ ap₂ (λ (f : ℕ → List ℕ) (z : ℕ). number n (λ j. product 8 (f (first + j)) (byte n j z))) byte_matrices_in is
