-- Laws, not definitions: `added` counts the XOR lookups that put their result at a place. Each lookup puts its own at one place, where it counts one more, and leaves
-- the count of every other as it was (`added_next`, `added_other` of Order.antt).
-- Assumes nothing.
use mathlib.Core.List.{List, [], ◌∷◌}
use mathlib.Core.Path.{◌≡◌, sym, ap, ap₂, ◌∙◌}
use Prim.Native.Nat.{ℕ, zero, suc, ◌*◌, ◌/◌, ◌%◌, ◌<◌}
use native.Mathlib.Decide.{ℕ_discrete}
use native.Mathlib.Omega.{arith}
use borrow.Author.Tests.{eq-eqb, ne_eqb}
use lib.Dec.{eqb}
use lib.ListN.{length, length-append}
use Rattle.bits.specs.Counts.{chosen}
use Rattle.network.specs.Order.{GoodWidth, nibble_of, sum_of, sum_place, place, added}
use Rattle.network.specs.Theorems.{AddedSoFar}
use Rattle.network.proofs.laws.Order.{at_div, at_mod, added_0, added_here, added_next, added_other, nibble_in}

module _ (m : ℕ) (good : GoodWidth m) (w h : ℕ) (hl : h < 2 * m) where
  abbrev times : ℕ → ℕ
  times x = length (chosen (λ y. eqb (sum_place m y) (place m w h)) x)

  -- A place is one nibble of one word.
  same_word : (x : ℕ) → sum_place m x ≡ place m w h → (sum_of m x ≡ w) × (nibble_of m x ≡ h)
  same_word x e = (
    sym (at_div (2 * m) (sum_of m x) (nibble_of m x) (nibble_in m good x)) ∙ ap (λ (p : ℕ). p / (2 * m)) e ∙ at_div (2 * m) w h hl,
    sym (at_mod (2 * m) (sum_of m x) (nibble_of m x) (nibble_in m good x)) ∙ ap (λ (p : ℕ). p % (2 * m)) e ∙ at_mod (2 * m) w h hl,
  )

  pub so_far : (x : ℕ) → added m x w h ≡ times x
  unfolding chosen
  so_far zero = added_0 m good w h
  so_far (suc x) = go (so_far x) (ℕ_discrete (sum_place m x) (place m w h))
    where
      front : List ℕ
      front = chosen (λ y. eqb (sum_place m y) (place m w h)) x

      go : added m x w h ≡ times x → Dec (sum_place m x ≡ place m w h) → added m (suc x) w h ≡ times (suc x)
      go up (yes e) =
          let s = same_word x e in
          sym (ap₂ (added m (suc x)) s.0 s.1)
          ∙ added_next m good x
          ∙ ap suc (sym (added_here m good x) ∙ ap₂ (added m x) s.0 s.1 ∙ up)
          ∙ sym (rw (eq-eqb (sum_place m x) (place m w h) e) (length-append front (x ∷ []) ∙ omega arith))
      go up (no e) =
          added_other m good x w h hl (λ a b. e (sym (ap₂ (place m) a b)))
          ∙ up
          ∙ sym (rw (ne_eqb (sum_place m x) (place m w h) e) (length-append front [] ∙ omega arith))

pub added_so_far : AddedSoFar
added_so_far m good x w h hl = so_far m good w h hl x
