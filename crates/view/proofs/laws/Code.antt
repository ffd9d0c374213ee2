-- Laws, not definitions: starts, sections and parts as the code meets them, by the test of a branch.
-- Assumes nothing.
use mathlib.Core.List.{List, []}
use mathlib.Core.Path.{◌≡◌, sym, ap, ◌∙◌}
use Prim.Native.Nat.{ℕ, ◌+◌, ◌-◌, ◌≤◌, ◌<◌}
use native.Mathlib.Omega.{arith}
use lib.ListN.{length, take, drop}
use borrow.Author.Tests.{eq-eqb, ne_eqb, lt-ltb, le-ltb}
use Rattle.bits.proofs.laws.Lists.{cut_is}
use Rattle.bundle.specs.Format.{section_length, offset, frame}
use Rattle.answers.specs.Answer.{Answer}
use Rattle.answers.specs.Answer.{Accepted, Refused}
use Rattle.answers.specs.declared.Refusal.{Refusal}
use Rattle.view.specs.Views.{start_of, starts_of, section_from}
use Rattle.view.specs.Serving.{no_starts}

-- ---- starts
module _ (nr : ℕ) (l : List ℕ) where
  pub start_is : frame nr l ≡ Accepted → (s : ℕ) → start_of nr l s ≡ offset l s
  unfolding start_of
  start_is e s = rw e

  pub start_none : (r : Refusal) → frame nr l ≡ Refused r → (s : ℕ) → start_of nr l s ≡ 0
  unfolding start_of
  start_none r e s = rw e

  -- j is the judgement of the frame; the five numbers are those that the code reads.
  module _ {j : Answer} (f : j ≡ frame nr l) where
    pub starts_are : j ≡ Accepted → {a b c d e : ℕ} → a ≡ offset l 0 → b ≡ offset l 1 → c ≡ offset l 2 → d ≡ offset l 3 → e ≡ offset l 4
        → record { encodings = a; bytes = b; columns = c; input = d; output = e } ≡ starts_of nr l
    unfolding starts_of
    starts_are t p q r s u =
        let there = start_is (sym f ∙ t) in
        rw (p, q, r, s, u, there 0, there 1, there 2, there 3, there 4)

    pub starts_none : {r : Refusal} → j ≡ Refused r → no_starts ≡ starts_of nr l
    unfolding starts_of
    starts_none t =
        let none = start_none _ (sym f ∙ t) in
        rw (none 0, none 1, none 2, none 3, none 4)

-- ---- sections from their starts
module _ (nr : ℕ) (l : List ℕ) (s a : ℕ) where
  pub from_nowhere : a ≡ 0 → [] ≡ section_from nr l s a
  unfolding section_from
  from_nowhere e = simp (eq-eqb _ _ e)

  module _ (h : a ≡ 0 → ⊥) where
    from_behind : length l < a + section_length nr s → [] ≡ section_from nr l s a
    unfolding section_from
    from_behind k = simp (ne_eqb _ _ h, lt-ltb _ _ k)

    pub from_here : a + section_length nr s ≤ length l → take (section_length nr s) (drop a l) ≡ section_from nr l s a
    unfolding section_from
    from_here k = simp (ne_eqb _ _ h, le-ltb _ _ k)

    -- n is the section's length, as the code has it: longer than the bundle, ending behind it, or cut out of it.
    module _ {n : ℕ} (e : n ≡ section_length nr s) where
      pub from_long : length l < n → [] ≡ section_from nr l s a
      from_long k = from_behind (omega arith)

      pub from_late : n ≤ length l → length l - n < a → [] ≡ section_from nr l s a
      from_late k m = from_behind (omega arith)

      pub from_cut : n ≤ length l → a ≤ length l - n → take ((a + n) - a) (drop a l) ≡ section_from nr l s a
      from_cut k m =
          cut_is l a n ∙ ap (λ (x : ℕ). take x (drop a l)) e ∙ from_here (omega arith)
