-- Laws, not definitions: the product of a matrix and a vector. It is linear, which is why tables made from it add up.
-- Assumes nothing.
use mathlib.Core.Path.{◌≡◌, sym, ap, ap₂, ◌∙◌, subst}
use Prim.Native.Nat.{ℕ, ◌+◌, ◌%◌, ◌^◌, ◌<◌}
use lib.Bits.{bit_xor, xor_lt}
use lib.ListN.{length}
use Rattle.bits.specs.Lists.{at, tabulate}
use Rattle.bits.specs.Vectors.{bit, unit, dot}
use Rattle.bits.proofs.laws.Lists.{at_tabulate, length_tabulate}
use Rattle.bits.proofs.laws.Groups.{joined_same, joined_zero}
use Rattle.bits.proofs.laws.Vectors.{dot_lt, dot_xor, dot_zero_r, bit_xor_lem, bit_ext, bit_vector, vector_lt, unit_lt, unit_dot}
use Rattle.matrices.specs.Matrices.{product_by, product, identity, RowsFit, Invertible, Square}

pub product_lt : (n : ℕ) (f : ℕ → ℕ) (v : ℕ) → product_by n f v < 2 ^ n
unfolding product_by
product_lt n f v = vector_lt n (λ i. dot (f i) v) (λ i h. dot_lt (f i) v)

pub bit_product : (n : ℕ) (f : ℕ → ℕ) (v i : ℕ) → i < n → bit n i (product_by n f v) ≡ dot (f i) v
unfolding product_by
bit_product n f v i h = bit_vector n (λ i. dot (f i) v) (λ i l. dot_lt (f i) v) i h

-- Only the first n rows count.
pub product_rows : (n : ℕ) (f g : ℕ → ℕ) (v : ℕ) → ((i : ℕ) → i < n → f i ≡ g i) → product_by n f v ≡ product_by n g v
unfolding product_by
product_rows n f g v e = joined_same 1 n _ _ (λ i h. ap (λ (x : ℕ). dot x v) (e i h))

pub product_tabulate : (n : ℕ) (f : ℕ → ℕ) (v : ℕ) → product n (tabulate n f) v ≡ product_by n f v
product_tabulate n f v = product_rows n (at (tabulate n f)) f v (λ i h. at_tabulate n f i h)

-- Linear: the product of an xor is the xor of the products.
pub product_xor : (n : ℕ) (f : ℕ → ℕ) (x y : ℕ) → product_by n f (bit_xor x y) ≡ bit_xor (product_by n f x) (product_by n f y)
product_xor n f x y =
    bit_ext n (product_by n f (bit_xor x y)) (bit_xor (product_by n f x) (product_by n f y)) (product_lt n f (bit_xor x y))
    (xor_lt n (product_by n f x) (product_by n f y) (product_lt n f x) (product_lt n f y))
    (λ i h.
    bit_product n f (bit_xor x y) i h
    ∙ dot_xor (f i) x y
    ∙ sym (bit_xor_lem n i (product_by n f x) (product_by n f y) ∙ ap₂ (λ (a b : ℕ). (a + b) % 2) (bit_product n f x i h) (bit_product n f y i h)))

-- A product is 0 where each row's parity is.
pub product_none : (n : ℕ) (f : ℕ → ℕ) (v : ℕ) → ((i : ℕ) → i < n → dot (f i) v ≡ 0) → product_by n f v ≡ 0
unfolding product_by
product_none n f v e = joined_zero 1 n _ e

pub product_zero : (n : ℕ) (f : ℕ → ℕ) → product_by n f 0 ≡ 0
product_zero n f = product_none n f 0 (λ i h. dot_zero_r (f i))

-- The identity's product is the vector.
pub product_unit : (n v : ℕ) → v < 2 ^ n → product_by n (unit n) v ≡ v
product_unit n v hv =
    bit_ext n (product_by n (unit n) v) v (product_lt n (unit n) v) hv (λ i h. bit_product n (unit n) v i h ∙ unit_dot n i v)

pub product_identity : (n v : ℕ) → v < 2 ^ n → product n (identity n) v ≡ v
unfolding identity
product_identity n v hv = product_tabulate n (unit n) v ∙ product_unit n v hv

pub identity_length : (n : ℕ) → length (identity n) ≡ n
unfolding identity
identity_length n = length_tabulate n (unit n)

pub identity_fits : (n : ℕ) → RowsFit n (at (identity n))
unfolding identity
identity_fits n i h = subst (λ (x : ℕ). x < 2 ^ n) (sym (at_tabulate n (unit n) i h)) (unit_lt n i h)

pub identity_square : (n : ℕ) → Square n (identity n)
identity_square n = record { long = identity_length n; fits = identity_fits n }

pub identity_invertible : (n : ℕ) → Invertible n (identity n)
identity_invertible n = (λ v. v, λ v h. product_identity n v h)
