-- Laws, not definitions: products and multiples, as parts of one size, one behind the other, need them.
-- Assumes nothing.
use mathlib.Core.Path.{subst}
use Prim.Native.Nat.{ℕ, ◌+◌, ◌*◌, ◌≤◌, ◌<◌}
use native.Mathlib.Nat.{mul-le-mul, mul-le-mul_right, suc-mul}
use native.Mathlib.Omega.{arith}

pub product_le : (a b c d : ℕ) → a ≤ c → b ≤ d → a * b ≤ c * d
product_le a b c d h k = mul-le-mul h k

-- Part i of n parts of w bytes lies within them.
pub row_inside : (i w n : ℕ) → i < n → i * w + w ≤ n * w
row_inside i w n h = subst (λ (x : ℕ). x ≤ n * w) (suc-mul i w) (mul-le-mul_right w h)

pub parts_within : (size n count x : ℕ) → n < count → count * size ≤ x → n * size + size ≤ x
parts_within size n count x h e = omega (arith, row_inside n size count h)
