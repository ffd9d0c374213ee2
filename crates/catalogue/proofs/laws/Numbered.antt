-- Laws, not definitions: numbers of n * n bits and matrices of n rows of n bits are the same. A row is a group of n bits of the number.
-- Assumes nothing.
use mathlib.Core.List.{List, [], ◌∷◌}
use mathlib.Core.Path.{◌≡◌, ap, ◌∙◌}
use Prim.Native.Nat.{ℕ, ◌+◌, ◌*◌, ◌^◌, ◌<◌}
use native.Mathlib.Omega.{arith}
use Rattle.bits.specs.Groups.{joined, group}
use Rattle.bits.specs.Lists.{at}
use Rattle.bits.specs.Vectors.{bit}
use Rattle.bits.proofs.laws.Groups.{group_lt, joined_lt, group_joined, joined_group, joined_same}
use Rattle.bits.proofs.laws.Lists.{at_tabulate, length_tabulate, ext_at}
use Rattle.bits.proofs.laws.Vectors.{bit_group}
use Rattle.matrices.specs.Matrices.{Square}
use Rattle.catalogue.specs.Catalogue.{number_of_rows, rows_of_number, side}
use Rattle.catalogue.specs.Theorems.{Numbered}

module _ (n : ℕ) where
  pub row_at : (v i : ℕ) → i < n → at (rows_of_number n v) i ≡ group n n i v
  unfolding rows_of_number
  row_at v i h = at_tabulate n (λ i. group n n i v) i h

  pub square : (v : ℕ) → Square n (rows_of_number n v)
  unfolding rows_of_number
  square v = record {
    long = length_tabulate n (λ i. group n n i v);
    fits = λ i h. omega (arith, row_at v i h, group_lt n n i v);
  }

  pub number_lt : (m : List ℕ) → Square n m → number_of_rows n m < 2 ^ (n * n)
  unfolding number_of_rows
  number_lt m s = joined_lt n n (at m) s.fits

  number_of_number : (v : ℕ) → v < 2 ^ (n * n) → number_of_rows n (rows_of_number n v) ≡ v
  unfolding number_of_rows
  number_of_number v h = joined_same n n _ _ (row_at v) ∙ joined_group n n v h

  pub rows_of_rows : (m : List ℕ) → Square n m → rows_of_number n (number_of_rows n m) ≡ m
  unfolding number_of_rows
  rows_of_rows m s =
      ext_at n _ m (square (number_of_rows n m)).long s.long
      (λ i h. row_at (number_of_rows n m) i h ∙ group_joined n n (at m) s.fits i h)

by_rows : (n v i j : ℕ) → i < n → j < n → bit n j (at (rows_of_number n v) i) ≡ bit (n * n) (n * i + j) v
by_rows n v i j hi hj = ap (bit n j) (row_at n v i hi) ∙ bit_group n n i j v hi hj

-- Of four rows, in plain numbers.
pub sixteen_bits : (a b c d : ℕ) → number_of_rows side (a ∷ b ∷ c ∷ d ∷ []) ≡ 4096 * a + 256 * b + 16 * c + d
unfolding number_of_rows joined
sixteen_bits a b c d = omega arith

pub numbered : (n : ℕ) → Numbered n
numbered n = record {
  number_fits = number_lt n;
  rows_fit = square n;
  there = number_of_number n;
  back = rows_of_rows n;
  by_rows = by_rows n;
}
