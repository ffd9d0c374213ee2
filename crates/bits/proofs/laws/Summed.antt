-- Laws, not definitions: of a loop that adds n terms by xor, term i in turn i.
-- Assumes nothing.
use mathlib.Core.Path.{◌≡◌, ap, ap₂, ◌∙◌}
use Prim.Native.Nat.{ℕ, ◌+◌, ◌≤◌, ◌<◌}
use native.Mathlib.Numerals.{add-one}
use native.Mathlib.Omega.{arith}
use lib.Bits.{bit_xor}
use Rattle.bits.specs.Groups.{xor_all}

-- The loop's invariant: the sum x has the first i of the n terms.
pub record Summed (n : ℕ) (f : ℕ → ℕ) (x i : ℕ) : Type 0 where
  pub within : i ≤ n
  pub same : x ≡ xor_all i f

pub summed_none : {n : ℕ} {f : ℕ → ℕ} {x : ℕ} → x ≡ 0 → Summed n f x 0
unfolding xor_all
summed_none e = record { within = omega arith; same = e }

module _ {n : ℕ} {f : ℕ → ℕ} {x i : ℕ} (S : Summed n f x i) where
  pub summed_more : {x' v : ℕ} → i < n → x' ≡ bit_xor x v → v ≡ f i → Summed n f x' (i + 1)
  unfolding xor_all
  summed_more h e is = record { within = omega arith; same = e ∙ ap₂ bit_xor S.same is ∙ rw add-one }

  pub summed_all : n ≤ i → x ≡ xor_all n f
  summed_all h =
      let done : i ≡ n = omega arith in
      S.same ∙ ap (λ (k : ℕ). xor_all k f) done
