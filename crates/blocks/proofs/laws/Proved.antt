-- Laws, not definitions: the statements of specs/Theorems.antt.
-- Assumes nothing.
use mathlib.Core.Bool.{true, false, not}
use mathlib.Core.List.{List}
use mathlib.Core.Logic.{inl, inr}
use mathlib.Core.Path.{◌≡◌, ap}
use Prim.Native.Nat.{ℕ}
use Rattle.answers.proofs.laws.Search.{none_picked, all_passed, some_picked}
use Rattle.answers.proofs.laws.Tests.{clash}
use Rattle.matrices.specs.Matrices.{Invertible}
use Rattle.inversion.proofs.laws.Inverses.{passes_invertible, invertible_passes}
use Rattle.catalogue.specs.Catalogue.{side}
use Rattle.blocks.specs.Blocks.{block, block_bad, block_row_bad, some_block_bad}
use Rattle.blocks.specs.Theorems.{BlocksAligned, BlocksBuilt, EachBlockInvertible, SingularBlock, TestExact, BlockInvertible, Unfit}
use Rattle.blocks.proofs.laws.Blocks.{block_square, block_bit, built_square, built_block}
use Rattle.std.proofs.lemmas.Bool.{not-false, true_from_ne_false}

pub blocks_aligned : BlocksAligned
blocks_aligned q m i j h = record { square = block_square q m i j; bits = λ r c hr hc. block_bit q m i j r c h hr hc }

pub blocks_built : BlocksBuilt
blocks_built q f squares = record { square = built_square q f squares; blocks = built_block q f squares }

-- ---- the test, a block, a row of blocks, all of them
module _ (q : ℕ) (m : List ℕ) where
  block_good : (i j : ℕ) → block_bad q m i j ≡ false → Invertible side (block q m i j)
  unfolding block_bad
  block_good i j e = passes_invertible side (block q m i j) (block_square q m i j).fits (not-false _ e)

  good_block : (i j : ℕ) → Invertible side (block q m i j) → block_bad q m i j ≡ false
  unfolding block_bad
  good_block i j good = ap not (invertible_passes side (block q m i j) (block_square q m i j).fits good)

  passes : some_block_bad q m ≡ false → EachBlockInvertible q m
  unfolding some_block_bad block_row_bad
  passes e i j hi hj = block_good i j (none_picked q (block_bad q m i) (none_picked q (block_row_bad q m) e i hi) j hj)

  passed : EachBlockInvertible q m → some_block_bad q m ≡ false
  unfolding some_block_bad block_row_bad
  passed good = all_passed q (block_row_bad q m) (λ i hi. all_passed q (block_bad q m i) (λ j hj. good_block i j (good i j hi hj)))

  fails : some_block_bad q m ≡ true → SingularBlock q m
  unfolding some_block_bad block_row_bad
  fails e =
      let row = some_picked q (block_row_bad q m) e in
      let bad = some_picked q (block_bad q m row.number) row.picked in
      record {
        i = row.number;
        j = bad.number;
        row = row.below;
        column = bad.below;
        singular = λ good. clash (block_bad q m row.number bad.number) bad.picked (good_block row.number bad.number good);
      }

  failed : SingularBlock q m → some_block_bad q m ≡ true
  failed b = true_from_ne_false (some_block_bad q m) (λ e. b.singular (passes e b.i b.j b.row b.column))

pub test_exact : TestExact
test_exact q m = record { passes = (passes q m, passed q m); fails = (fails q m, failed q m) }

-- ---- an unfit matrix is not block invertible
pub unfit_not : (q : ℕ) (m : List ℕ) → Unfit q m → BlockInvertible q m → ⊥
unfit_not q m (inl none) good = none good.whole
unfit_not q m (inr bad) good = bad.singular (good.blocks bad.i bad.j bad.row bad.column)
