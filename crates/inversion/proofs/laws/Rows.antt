-- Laws, not definitions: the rows of a list, each as the number f of it: one that is read, and one that is written. And a row of words, which is one of 128 digits.
-- Assumes nothing.
use mathlib.Core.List.{List}
use mathlib.Core.Logic.{◌≢◌}
use mathlib.Core.Path.{◌≡◌, sym, ap, ◌∙◌}
use Prim.Native.Nat.{ℕ, ◌+◌, ◌*◌, ◌^◌, ◌<◌}
use native.Mathlib.Omega.{arith}
use lib.Arith.{digits_lt}
use lib.ListN.{length, get_or, set}
use lib.Seq.{get_or-set_same, get_or-set_other}
use Rattle.std.proofs.Common.{map}
use Rattle.std.proofs.lemmas.List.{map-set, length-map, get_or-map}
use Rattle.bits.specs.Lists.{at}
use Rattle.bits.specs.Words.{wide}
use Rattle.matrices.specs.Rows.{row_at}
use Rattle.inversion.specs.Work.{row_in}

-- ---- row i replaced by x
pub record Replaced (f : ℕ → ℕ) (i x : ℕ) (g : ℕ → ℕ) : Type 0 where
  pub here : g i ≡ x
  pub others : (j : ℕ) → j ≢ i → g j ≡ f j

module _ {R : Type 0} (f : R → ℕ) (m : List R) (i : ℕ) (x : R) (h : i < length m) where
  -- x is row i.
  pub row_is : x ≡ get_or m i x → f x ≡ row_in f m i
  unfolding row_in
  row_is e = ap f e ∙ sym (get_or-map f m i x 0 h)

  -- x is stored as row i.
  pub row_put : Replaced (row_in f m) i (f x) (row_in f (set m i x))
  unfolding row_in
  row_put =
      let there : i < length (map f m) = omega (arith, length-map m f) in
      record {
        here = ap (λ (l : List ℕ). at l i) (map-set f m i x) ∙ get_or-set_same (map f m) i (f x) 0 there;
        others = λ j q. ap (λ (l : List ℕ). at l j) (map-set f m i x) ∙ get_or-set_other (map f m) i j (f x) 0 q;
      }

-- ---- row i of words
pub row_small : (m : List ℕ) (i : ℕ) → ((j : ℕ) → at m j < 2 ^ 64) → row_at m i < 2 ^ 128
unfolding row_at wide
row_small m i words = digits_lt {m = 2 ^ 64} {c = 2 ^ 64} (words (2 * i)) (words (2 * i + 1))
