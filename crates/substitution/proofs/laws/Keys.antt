-- Laws, not definitions: the key bytes before and behind the substitution of both ciphers, by the code's tests of the
-- cipher's number (`by_forward` and `by_inverse` of layout's laws) and of the round.
-- Assumes nothing.
use mathlib.Core.List.{List}
use mathlib.Core.Path.{◌≡◌, refl, ◌∙◌}
use Prim.Native.Nat.{ℕ, ◌-◌}
use borrow.Author.Tests.{eq-eqb, ne_eqb}
use Rattle.bits.specs.Lists.{at}
use Rattle.round.specs.Key.{key_of}
use Rattle.layout.proofs.laws.Ciphers.{by_forward, by_inverse}
use Rattle.whitebox.specs.Parts.{Parts, forward, inverse, parts_for}

-- x is the key byte, of the cipher c of nr rounds over the round keys w.
module _ (nr : ℕ) (w : List ℕ) (r j x c : ℕ) where
  abbrev before : Parts → ℕ
  before P = P.before r j

  abbrev behind : Parts → ℕ
  behind P = P.behind r j

  -- ---- the forward cipher
  pub before_forward : c ≡ 0 → x ≡ at (key_of w (r - 1)) j → x ≡ (parts_for c nr w).before r j
  unfolding forward
  before_forward e q = by_forward before c (forward nr w) (inverse nr w) e q

  pub behind_last : c ≡ 0 → r ≡ nr → x ≡ at (key_of w nr) j → x ≡ (parts_for c nr w).behind r j
  unfolding forward
  behind_last e last q = by_forward behind c (forward nr w) (inverse nr w) e (q ∙ rw (eq-eqb r nr last) refl)

  pub behind_none : c ≡ 0 → (r ≡ nr → ⊥) → x ≡ 0 → x ≡ (parts_for c nr w).behind r j
  unfolding forward
  behind_none e inner q = by_forward behind c (forward nr w) (inverse nr w) e (q ∙ rw (ne_eqb r nr inner) refl)

  -- ---- the inverse cipher
  pub before_first : (c ≡ 0 → ⊥) → r ≡ 1 → x ≡ at (key_of w nr) j → x ≡ (parts_for c nr w).before r j
  unfolding inverse
  before_first n first q = by_inverse before c (forward nr w) (inverse nr w) n (q ∙ rw (eq-eqb r 1 first) refl)

  pub before_none : (c ≡ 0 → ⊥) → (r ≡ 1 → ⊥) → x ≡ 0 → x ≡ (parts_for c nr w).before r j
  unfolding inverse
  before_none n later q = by_inverse before c (forward nr w) (inverse nr w) n (q ∙ rw (ne_eqb r 1 later) refl)

  pub behind_inverse : (c ≡ 0 → ⊥) → x ≡ at (key_of w (nr - r)) j → x ≡ (parts_for c nr w).behind r j
  unfolding inverse
  behind_inverse n q = by_inverse behind c (forward nr w) (inverse nr w) n q
