-- Laws, not definitions: of a loop that joins w groups of k bits to a number, group i being f i, one a turn at the bottom.
-- Assumes nothing.
use mathlib.Core.Path.{◌≡◌, refl, sym, ap, ◌∙◌}
use Prim.Native.Nat.{ℕ, ◌+◌, ◌*◌, ◌%◌, ◌^◌, ◌≤◌, ◌<◌}
use native.Mathlib.Nat.{lt_of_lt_of_le, mod-eq_of_lt}
use native.Mathlib.Omega.{arith}
use lib.Pow.{pow_mono}
use Rattle.bits.specs.Groups.{joined}
use Rattle.bits.proofs.laws.Groups.{joined_lt, joined_next}

-- The loop's invariant: v is the number of the first i of the w groups.
pub record Joined (k w : ℕ) (f : ℕ → ℕ) (v i : ℕ) : Type 0 where
  pub within : i ≤ w
  pub so_far : v ≡ joined k i f

pub joined_none : {k w : ℕ} {f : ℕ → ℕ} {v : ℕ} → v ≡ 0 → Joined k w f v 0
unfolding joined
joined_none e = record { within = omega arith; so_far = e }

module _ {k w : ℕ} {f : ℕ → ℕ} {v i : ℕ} (g : Joined k w f v i) where
  pub joined_more : {v' : ℕ} → i < w → v' ≡ v * 2 ^ k + f i → Joined k w f v' (i + 1)
  joined_more h e = record {
    within = omega arith;
    so_far = e ∙ ap (λ (x : ℕ). x * 2 ^ k + f i) g.so_far ∙ sym (joined_next k i f);
  }

  pub joined_all : w ≤ i → v ≡ joined k w f
  joined_all h =
      let done : i ≡ w = omega arith in
      g.so_far ∙ ap (λ (n : ℕ). joined k n f) done

  -- Groups of b bits or fewer make a number below 2 ^ b: a vector of b + k bits has room for one group more.
  pub joined_room : (b : ℕ) → k * i ≤ b → ((j : ℕ) → f j < 2 ^ k) → v < 2 ^ b
  joined_room b h small = rw g.so_far (lt_of_lt_of_le (joined_lt k i f (λ j _. small j)) (pow_mono h))

-- Bits that are pushed one by one into a vector of 128 bits.
module _ {w : ℕ} {f : ℕ → ℕ} {v i : ℕ} (g : Joined 1 w f v i) (small : (j : ℕ) → f j < 2) where
  pub joined_bit : {v' b : ℕ} → i < w → w ≤ 128 → v' ≡ (v * 2 + b % 2) % 2 ^ 128 → b ≡ f i → Joined 1 w f v' (i + 1)
  joined_bit {v'} {b} h room e is =
      let bit : b % 2 ≡ f i = ap (λ (x : ℕ). x % 2) is ∙ mod-eq_of_lt (small i) in
      let fits : v * 2 + f i < 2 ^ 128 = joined_room (joined_more g h refl) 128 (omega arith) small in
      joined_more g h (e ∙ ap (λ (x : ℕ). (v * 2 + x) % 2 ^ 128) bit ∙ mod-eq_of_lt fits)
