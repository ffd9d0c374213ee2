-- Laws, not definitions: the tests of a matrix and of its blocks are exact (`MixingExact` of specs/Judgements.antt), and a matrix with two equal rows has no inverse.
-- Assumes nothing.
use mathlib.Core.Bool.{Bool, true, false, not}
use mathlib.Core.List.{List}
use mathlib.Core.Logic.{◌≢◌, inl, inr}
use mathlib.Core.Path.{◌≡◌, refl, sym, ap, ◌∙◌, subst}
use Prim.Native.Nat.{ℕ, ◌*◌, ◌<◌}
use native.Mathlib.Omega.{arith}
use Rattle.answers.proofs.laws.Tests.{clash, or_left, or_right, neither}
use Rattle.bits.specs.Bytes.{Bytes}
use Rattle.bits.specs.Lists.{at}
use Rattle.bits.specs.Vectors.{bit, unit, dot}
use Rattle.bits.proofs.laws.Vectors.{unit_lt, bit_unit_same, bit_unit_other}
use Rattle.matrices.specs.Matrices.{product, RowsFit, Invertible, matrix_of}
use Rattle.matrices.proofs.laws.Stored.{matrix_of_fits}
use Rattle.matrices.proofs.laws.Matrices.{bit_product}
use Rattle.inversion.proofs.laws.Inverses.{answered, exact, passes_invertible, invertible_passes}
use Rattle.catalogue.specs.Catalogue.{side}
use Rattle.blocks.specs.Blocks.{some_block_bad}
use Rattle.blocks.specs.Theorems.{TestTells, BlockInvertible, Unfit}
use Rattle.blocks.proofs.laws.Proved.{test_exact, unfit_not}
use Rattle.judgement.specs.Judge.{no_inverse, mixing_bad}
use Rattle.judgement.specs.Judgements.{MixingExact}
use Rattle.std.proofs.lemmas.Bool.{not-false, true_from_ne_false}

module _ (n : ℕ) (m : List ℕ) (fits : RowsFit n (at m)) where
  -- Two equal rows: some vector has a product with a one in the one row and a zero in the other.
  pub equal_rows : (a b : ℕ) → a < n → b < n → a ≢ b → at m a ≡ at m b → Invertible n m → ⊥
  equal_rows a b ha hb ne e I =
      let B = exact n m fits I in
      let x = product n B.0 (unit n a) in
      let back : product n m x ≡ unit n a = (answered n m B.0 fits B.1).right (unit n a) (unit_lt n a ha) in
      let one : dot (at m a) x ≡ 1 = sym (bit_product n (at m) x a ha) ∙ ap (bit n a) back ∙ bit_unit_same n a in
      let none : dot (at m b) x ≡ 0 = sym (bit_product n (at m) x b hb) ∙ ap (bit n b) back ∙ bit_unit_other n a b ha hb ne in
      let y : ◌≡◌ {A = ℕ} 1 0 = sym one ∙ ap (λ (r : ℕ). dot r x) e ∙ none in
      omega arith

module _ (w : ℕ) (p : List ℕ) (bytes : Bytes p) where
  pub good_invertible : no_inverse w p ≡ false → Invertible (8 * w) (matrix_of w p)
  unfolding no_inverse
  good_invertible e = passes_invertible (8 * w) (matrix_of w p) (matrix_of_fits w p bytes) (not-false _ e)

  pub invertible_good : Invertible (8 * w) (matrix_of w p) → no_inverse w p ≡ false
  unfolding no_inverse
  invertible_good good = ap not (invertible_passes (8 * w) (matrix_of w p) (matrix_of_fits w p bytes) good)

  -- ---- byte and column matrices: 8 w rows are 2 w rows of blocks
  rows : 8 * w ≡ side * (2 * w)
  rows = omega arith

  good_whole : no_inverse w p ≡ false → Invertible (side * (2 * w)) (matrix_of w p)
  good_whole e = subst (λ (n : ℕ). Invertible n (matrix_of w p)) rows (good_invertible e)

  whole_good : Invertible (side * (2 * w)) (matrix_of w p) → no_inverse w p ≡ false
  whole_good good = invertible_good (subst (λ (n : ℕ). Invertible n (matrix_of w p)) (sym rows) good)

  abbrev blocks_bad : Bool
  blocks_bad = some_block_bad (2 * w) (matrix_of w p)

  exactly : TestTells (2 * w) (matrix_of w p)
  exactly = test_exact (2 * w) (matrix_of w p)

  pub good_mixing : mixing_bad w p ≡ false → BlockInvertible (2 * w) (matrix_of w p)
  unfolding mixing_bad
  good_mixing e = record {
    whole = good_whole (or_left (no_inverse w p) blocks_bad e);
    blocks = exactly.passes.0 (or_right (no_inverse w p) blocks_bad e);
  }

  pub mixing_good : BlockInvertible (2 * w) (matrix_of w p) → mixing_bad w p ≡ false
  unfolding mixing_bad
  mixing_good good = neither (no_inverse w p) blocks_bad (whole_good good.whole) (exactly.passes.1 good.blocks)

  -- One that is not block invertible is unfit; the test of the whole says for which reason.
  pub not_unfit : (BlockInvertible (2 * w) (matrix_of w p) → ⊥) → Unfit (2 * w) (matrix_of w p)
  not_unfit none = by (no_inverse w p) refl
    where
      by : (b : Bool) → no_inverse w p ≡ b → Unfit (2 * w) (matrix_of w p)
      by true e = inl (λ whole. clash (no_inverse w p) e (whole_good whole))
      by false e = inr (exactly.fails.0 (true_from_ne_false blocks_bad (λ t. none (record { whole = good_whole e; blocks = exactly.passes.0 t }))))

pub mixing_exact : MixingExact
mixing_exact w p bytes =
    let m = matrix_of w p in
    record {
      refuses = (
        λ e. not_unfit w p bytes (λ good. clash (mixing_bad w p) e (mixing_good w p bytes good)),
        λ bad. true_from_ne_false (mixing_bad w p) (λ e. unfit_not (2 * w) m bad (good_mixing w p bytes e)),
      );
      passes = (good_mixing w p bytes, mixing_good w p bytes);
    }
