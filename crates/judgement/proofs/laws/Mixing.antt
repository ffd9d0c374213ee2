-- Laws, not definitions: matrices that are built from blocks, those of specs/Witness.antt and specs/Cases.antt. That the whole has an inverse, or a block has none,
-- is computed.
-- Assumes nothing.
use mathlib.Core.Bool.{Bool, true, false, cond, ◌&&◌}
use mathlib.Core.List.{List}
use mathlib.Core.Logic.{◌≢◌}
use mathlib.Core.Path.{◌≡◌, refl, sym, ◌∙◌, subst}
use Prim.Native.Nat.{ℕ, ◌-◌, ◌*◌, ◌^◌, ◌≤◌, ◌<◌}
use native.Mathlib.Decide.{ℕ_discrete}
use native.Mathlib.Omega.{arith}
use borrow.Author.Tests.{eq-eqb, ne_eqb}
use lib.Dec.{T, eqb, ltb, ltb→lt}
use lib.ListN.{length, replicate}
use Rattle.bits.specs.Groups.{joined, group}
use Rattle.bits.specs.Lists.{at, tabulate}
use Rattle.bits.specs.Vectors.{delta}
use Rattle.bits.proofs.laws.Checked.{all, all_at}
use Rattle.matrices.specs.Matrices.{identity, Square, Invertible}
use Rattle.matrices.proofs.laws.Matrices.{identity_square, identity_invertible}
use Rattle.inversion.specs.Elimination.{singular, invert, has_inverse, columns, pivot_from, add_row, pivot_by, clear_by}
use Rattle.inversion.proofs.laws.Inverses.{passes_invertible, refused}
use Rattle.catalogue.specs.Catalogue.{side}
use Rattle.blocks.specs.Blocks.{block, of_blocks}
use Rattle.blocks.specs.Theorems.{EachBlockInvertible, SingularBlock}
use Rattle.blocks.proofs.laws.Proved.{blocks_built}
use Rattle.judgement.specs.Cases.{last_zero, last_bad, BadAtLast}
use Rattle.judgement.specs.Witness.{diagonal_block, mixing_block, mixing_matrix, MixingMatrices}

-- ---- a block with an inverse, and a matrix of such blocks
record Regular (n : ℕ) (m : List ℕ) : Type 0 where
  pub square : Square n m
  pub invertible : Invertible n m

identity_regular : (n : ℕ) → Regular n (identity n)
identity_regular n = record { square = identity_square n; invertible = identity_invertible n }

-- Four rows that are written out.
small_square : (m : List ℕ) → length m ≡ side → T (all side (λ i. ltb (at m i) (2 ^ side))) → Square side m
small_square m long small = record { long = long; fits = λ i h. ltb→lt (at m i) (2 ^ side) (all_at side (λ i. ltb (at m i) (2 ^ side)) small i h) }

diagonal_regular : Regular side diagonal_block
diagonal_regular = record { square = square; invertible = passes_invertible side diagonal_block square.fits computed }
  where
    square : Square side diagonal_block
    square = small_square diagonal_block refl tt

    computed : has_inverse (invert side diagonal_block) ≡ true
    computed = unfold invert columns pivot_from add_row pivot_by clear_by tabulate group delta identity in refl

mixing_regular : (i j : ℕ) → Regular side (mixing_block i j)
mixing_regular i j = by (eqb i j)
  where
    by : (b : Bool) → Regular side (cond b diagonal_block (identity side))
    by true = diagonal_regular
    by false = identity_regular side

-- Of q by q blocks that have inverses.
module _ (q : ℕ) (f : ℕ → ℕ → List ℕ) (regular : (i j : ℕ) → i < q → j < q → Regular side (f i j)) where
  regular_blocks : EachBlockInvertible q (of_blocks q f)
  regular_blocks i j h l =
      let built = blocks_built q f (λ i j h l. (regular i j h l).square) in
      subst (Invertible side) (sym (built.blocks i j h l)) (regular i j h l).invertible

pub mixing_square : (q : ℕ) → Square (side * q) (mixing_matrix q)
unfolding mixing_matrix
mixing_square q = (blocks_built q _ (λ i j h l. (mixing_regular i j).square)).square

mixing_blocks : (q : ℕ) → EachBlockInvertible q (mixing_matrix q)
unfolding mixing_matrix
mixing_blocks q = regular_blocks q _ (λ i j h l. mixing_regular i j)

pub mixing_matrices : MixingMatrices
mixing_matrices = (
  record { whole = passes_invertible 8 (mixing_matrix 2) (mixing_square 2).fits byte; blocks = mixing_blocks 2 },
  record { whole = passes_invertible 32 (mixing_matrix 8) (mixing_square 8).fits column; blocks = mixing_blocks 8 },
)
  where
    byte : has_inverse (invert 8 (mixing_matrix 2)) ≡ true
    byte = unfold mixing_matrix of_blocks invert columns pivot_from add_row pivot_by clear_by tabulate joined group delta identity in refl

    column : has_inverse (invert 32 (mixing_matrix 8)) ≡ true
    column = unfold mixing_matrix of_blocks invert columns pivot_from add_row pivot_by clear_by tabulate joined group delta identity in refl

-- ---- a block of zeros has no inverse
zeros_square : Square side (replicate side 0)
zeros_square = small_square (replicate side 0) refl tt

zeros_singular : Invertible side (replicate side 0) → ⊥
zeros_singular = refused side (replicate side 0) zeros_square.fits computed
  where
    computed : invert side (replicate side 0) ≡ singular
    computed = unfold invert columns pivot_from add_row pivot_by clear_by tabulate group delta identity in refl

-- The identity of 8 rows has such blocks beside its diagonal.
pub identity_block : SingularBlock 2 (identity 8)
identity_block = record {
  i = 0;
  j = 1;
  row = omega arith;
  column = omega arith;
  singular = λ I. zeros_singular (subst (Invertible side) computed I);
}
  where
    computed : block 2 (identity 8) 0 1 ≡ replicate side 0
    computed = unfold block identity tabulate group in refl

-- ---- the matrix whose last block is 0
last_square : (q i j : ℕ) → Square side (last_zero q i j)
last_square q i j = by (eqb i (q - 1) && eqb j (q - 1))
  where
    by : (a : Bool) → Square side (cond a (replicate side 0) (mixing_block i j))
    by true = zeros_square
    by false = (mixing_regular i j).square

module _ (q : ℕ) where
  pub last_bad_square : Square (side * q) (last_bad q)
  unfolding last_bad
  last_bad_square = (blocks_built q (last_zero q) (λ i j h l. last_square q i j)).square

  pub last_bad_block : 1 ≤ q → SingularBlock q (last_bad q)
  unfolding last_bad
  last_bad_block some =
      let end = q - 1 in
      let last : eqb end end ≡ true = eq-eqb end end refl in
      let zero : last_zero q end end ≡ replicate side 0 = rw last in
      let built = blocks_built q (last_zero q) (λ i j h l. last_square q i j) in
      record {
        i = end;
        j = end;
        row = omega arith;
        column = omega arith;
        singular = λ I. zeros_singular (subst (Invertible side) (built.blocks end end (omega arith) (omega arith) ∙ zero) I);
      }

  last_other : (i j : ℕ) → (i ≡ q - 1 → j ≢ q - 1) → last_zero q i j ≡ mixing_block i j
  last_other i j other = elim (ℕ_discrete i (q - 1)) [
    | yes e ↦ rw (eq-eqb i (q - 1) e, ne_eqb j (q - 1) (other e))
    | no e ↦ rw (ne_eqb i (q - 1) e)
  ]

  last_alone : has_inverse (invert (side * q) (last_bad q)) ≡ true → BadAtLast q
  unfolding last_bad
  last_alone passes = record {
    whole = passes_invertible (side * q) (last_bad q) last_bad_square.fits passes;
    others = λ i j h l other.
        let built = blocks_built q (last_zero q) (λ i j h l. last_square q i j) in
        subst (Invertible side) (sym (built.blocks i j h l ∙ last_other i j other)) (mixing_regular i j).invertible;
  }

pub last_bad_byte : BadAtLast 2
last_bad_byte = last_alone 2 computed
  where
    computed : has_inverse (invert 8 (last_bad 2)) ≡ true
    computed = unfold last_bad of_blocks invert columns pivot_from add_row pivot_by clear_by tabulate joined group delta identity in refl

pub last_bad_column : BadAtLast 8
last_bad_column = last_alone 8 computed
  where
    computed : has_inverse (invert 32 (last_bad 8)) ≡ true
    computed = unfold last_bad of_blocks invert columns pivot_from add_row pivot_by clear_by tabulate joined group delta identity in refl

-- ---- the matrix of four identities, whose rows 0 and 4 are equal
pub twins : List ℕ
twins = of_blocks 2 (λ i j. identity side)

pub twins_square : Square 8 twins
unfolding twins
twins_square = (blocks_built 2 _ (λ i j h l. (identity_regular side).square)).square

pub twins_blocks : EachBlockInvertible 2 twins
unfolding twins
twins_blocks = regular_blocks 2 _ (λ i j h l. identity_regular side)

pub twins_equal : at twins 0 ≡ at twins 4
twins_equal = unfold twins of_blocks tabulate joined identity in refl
