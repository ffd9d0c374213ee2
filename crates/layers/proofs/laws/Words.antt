-- Laws, not definitions: bytes, their products and vectors of bytes, as the code of words makes them.
-- Assumes nothing.
use mathlib.Core.List.{List}
use mathlib.Core.Path.{◌≡◌, sym, ap, ap₂, ◌∙◌}
use Prim.Native.Nat.{ℕ, zero, suc, ◌+◌, ◌-◌, ◌*◌, ◌/◌, ◌%◌, ◌^◌, ◌≤◌, ◌<◌}
use native.Mathlib.Omega.{arith}
use lib.ListN.{length, set}
use Rattle.bits.specs.Bytes.{number, byte}
use Rattle.bits.specs.Groups.{joined}
use Rattle.bits.specs.Lists.{at, part_of}
use Rattle.bits.specs.Vectors.{dot}
use Rattle.bits.proofs.laws.Bytes.{byte_from_bottom}
use Rattle.bits.proofs.laws.Filled.{Filled, filled_more}
use Rattle.bits.proofs.laws.Joined.{Joined, joined_more}
use Rattle.matrices.specs.Matrices.{product, product_by, matrix_of}
use Rattle.matrices.proofs.laws.Matrices.{product_rows}
use Rattle.matrices.proofs.laws.Rows.{joined_product}
use Rattle.matrices.proofs.laws.Stored.{matrix_of_at}
use Rattle.field.specs.Field.{mul}
use Rattle.field.proofs.laws.Field.{mul_lt}
use Rattle.round.specs.State.{mix_rows, inv_mix_rows, entry}
use Rattle.round.proofs.laws.Mix.{mix_bytes, inv_mix_bytes}
use Rattle.layout.specs.Ciphers.{for_cipher}
use Rattle.bits.proofs.laws.Cuts.{part_length}

-- ---- the product of 8 bytes and a byte
-- The rows of a matrix of 8 rows are the bytes that write it.
part_rows : (p : List ℕ) (x : ℕ) → product_by 8 (at p) x ≡ product 8 (matrix_of 1 p) x
unfolding joined
part_rows p x =
    product_rows 8 (at p) (at (matrix_of 1 p)) x
    (λ i h.
    let here : i * 1 + 0 ≡ i = omega arith in
    let one : 0 * 2 ^ 8 + at p (i * 1 + 0) ≡ at p (i * 1 + 0) = omega arith in
    sym (matrix_of_at 1 p i h ∙ one ∙ ap (at p) here))

-- A loop joins the parities of the 8 bytes that write a matrix and x.
pub part_multiplied : (p : List ℕ) (x r i : ℕ) → Joined 1 8 (λ j. dot (at p j) x) r i → 8 ≤ i → r ≡ product 8 (matrix_of 1 p) x
part_multiplied p x r i J h = joined_product 8 (at p) x r i J h ∙ part_rows p x

-- ---- four bytes that a loop joins
-- Row t of column q of a column mixing with the coefficients c, times the byte y.
abbrev pub mixed_by : (ℕ → ℕ → ℕ) → ℕ → ℕ → ℕ → ℕ
mixed_by c q y t = mul (c t q) y

-- All four rows, as a number.
abbrev pub mixed_column : (ℕ → ℕ → ℕ) → ℕ → ℕ → ℕ
mixed_column c q y = number 4 (mixed_by c q y)

-- Each row is a byte, for either cipher.
pub mixed_lt : (cipher q y t : ℕ) → mixed_by (entry (for_cipher cipher mix_rows inv_mix_rows)) q y t < 256
mixed_lt zero q y t = mul_lt (entry mix_rows t q) y (mix_bytes _)
mixed_lt (suc c) q y t = mul_lt (entry inv_mix_rows t q) y (inv_mix_bytes _)

pub mixed_more : (c : ℕ → ℕ → ℕ) (q y : ℕ) {v t k x : ℕ} → Joined 8 4 (mixed_by c q y) v t → t < 4 → k ≡ c t q → x ≡ mul k y
    → Joined 8 4 (mixed_by c q y) (v * 256 + x) (t + 1)
mixed_more c q y {v} J h ec ex = joined_more J h (ap (λ (z : ℕ). v * 256 + z) (ex ∙ ap (λ (z : ℕ). mul z y) ec))

-- ---- bytes that a loop fills
module _ (s : List ℕ) (first n v : ℕ) where
  -- Byte j of the n bytes of v, times its byte matrix of the section s.
  abbrev pub byte_times : ℕ → ℕ
  byte_times j = product 8 (matrix_of 1 (part_of 8 s (first + j))) (byte n j v)

  pub times_more : {b : List ℕ} {j y : ℕ} (p : List ℕ) (x : ℕ) → Filled 16 byte_times b j → n ≤ 16 → j < n → p ≡ part_of 8 s (first + j)
      → x ≡ v / 2 ^ (8 * (n - 1 - j)) % 256 → y ≡ product 8 (matrix_of 1 p) x → Filled 16 byte_times (set b j y) (j + 1)
  times_more {j = j} p x F h k ep ex ey =
      filled_more F (omega arith) (ey ∙ ap₂ (λ (t : List ℕ) (z : ℕ). product 8 (matrix_of 1 t) z) ep (byte_from_bottom n j v x ex))

-- A byte matrix of its section of `count` has 8 bytes.
pub part_room : (s p : List ℕ) (first n j : ℕ) → (first + n) * 8 ≤ length s → j < n → p ≡ part_of 8 s (first + j) → 8 ≤ length p
part_room s p first n j l k e = omega (arith, ap length e, part_length 8 s (first + j) (omega arith))
