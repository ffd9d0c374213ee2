-- Laws, not definitions: the catalogue of the n by n matrices is sound, complete and rising, for any n. The elimination answers exactly where there is an inverse, and
-- the list is the numbers that it answers for.
-- Assumes nothing.
use mathlib.Core.Bool.{true}
use mathlib.Core.List.{List}
use mathlib.Core.Path.{◌≡◌, refl, ap}
use Prim.Native.Nat.{ℕ, ◌*◌, ◌^◌, ◌<◌}
use native.Mathlib.Decide.{dec_lt}
use native.Mathlib.Omega.{arith}
use lib.ListN.{length}
use Rattle.bits.specs.Lists.{at, Rising}
use Rattle.bits.proofs.laws.Counts.{counted, counted_lt, length_chosen, Stands, stands_at, at_stands}
use Rattle.matrices.specs.Matrices.{Invertible}
use Rattle.inversion.specs.Inverses.{UndoesBothWays}
use Rattle.inversion.proofs.laws.Inverses.{passes_undone, invertible_passes}
use Rattle.catalogue.specs.Catalogue.{number_of_rows, rows_of_number, is_invertible, catalogue_of}
use Rattle.catalogue.specs.Theorems.{Sound, Complete}
use Rattle.catalogue.proofs.laws.Numbered.{square, number_lt, rows_of_rows}

module _ (n : ℕ) where
  -- ---- the test is exact
  number_undone : (v : ℕ) → is_invertible n v ≡ true → (b : List ℕ) × UndoesBothWays n (rows_of_number n v) b
  unfolding is_invertible
  number_undone v = passes_undone n (rows_of_number n v) (square n v).fits

  number_passes : (v : ℕ) → Invertible n (rows_of_number n v) → is_invertible n v ≡ true
  unfolding is_invertible
  number_passes v = invertible_passes n (rows_of_number n v) (square n v).fits

  -- ---- the list
  placed : (p : ℕ) → p < length (catalogue_of n) → Stands (is_invertible n) (2 ^ (n * n)) p (at (catalogue_of n) p)
  unfolding catalogue_of
  placed = at_stands (is_invertible n) (2 ^ (n * n))

  pub sound : Sound n
  sound p h =
      let S = placed p h in
      let B = number_undone (at (catalogue_of n) p) S.passes in
      record { fits = S.below; inverse = B.0; undoes = B.1 }

  pub complete : Complete n
  unfolding catalogue_of
  complete m s I =
      let v = number_of_rows n m in
      let passes : is_invertible n v ≡ true = number_passes v (rw (rows_of_rows n m s) I) in
      let fits = number_lt n m s in
      record {
        position = counted (is_invertible n) v;
        inside = omega (arith, counted_lt (is_invertible n) v (2 ^ (n * n)) passes fits, length_chosen (is_invertible n) (2 ^ (n * n)));
        number = stands_at (record { below = fits; passes = passes; rank = refl });
      }

  -- Of two places the later has more before it, so its number is higher.
  pub rising : Rising (catalogue_of n)
  rising p q l h =
      let P = placed p (omega arith) in
      let Q = placed q h in
      elim (dec_lt (at (catalogue_of n) p) (at (catalogue_of n) q)) [
        | yes b ↦ b
        | no b ↦ absurd (not_above P Q b)
      ]
    where
      not_above : Stands (is_invertible n) (2 ^ (n * n)) p (at (catalogue_of n) p) → Stands (is_invertible n) (2 ^ (n * n)) q (at (catalogue_of n) q)
          → ¬ (at (catalogue_of n) p < at (catalogue_of n) q) → ⊥
      not_above P Q b = elim (dec_lt (at (catalogue_of n) q) (at (catalogue_of n) p)) [
        | yes c ↦ omega (arith, counted_lt (is_invertible n) (at (catalogue_of n) q) (at (catalogue_of n) p) Q.passes c, P.rank, Q.rank)
        | no c ↦
            let e : at (catalogue_of n) p ≡ at (catalogue_of n) q = omega arith in
            omega (arith, ap (counted (is_invertible n)) e, P.rank, Q.rank)
      ]
