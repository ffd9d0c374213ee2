-- Laws, not definitions: the inverse parts give FIPS 197's inverse cipher, and its states between and inside the rounds. In round 1 the key byte before the
-- substitution makes the state one with round key nr added, which InvCipher starts from; in the other rounds nothing is added there.
-- Assumes nothing.
use mathlib.Core.Bool.{cond}
use mathlib.Core.List.{List}
use mathlib.Core.Path.{◌≡◌, refl, sym, ap, ◌∙◌}
use Prim.Native.Nat.{ℕ, zero, suc, ◌-◌, ◌<◌}
use native.Mathlib.Omega.{arith}
use borrow.Author.Tests.{ne_eqb}
use lib.Bits.{bit_xor, xor_zero_r}
use lib.Dec.{eqb, lit<}
use Rattle.bits.specs.Bytes.{Bytes}
use Rattle.bits.specs.Lists.{at}
use Rattle.bits.proofs.laws.Xor.{cond_lt}
use Rattle.field.specs.Sbox.{inv_sbox_of}
use Rattle.field.proofs.laws.Sbox.{inv_sbox_lt}
use Rattle.round.specs.Key.{key_of}
use Rattle.round.specs.State.{inv_mix_rows, AddRoundKey, InvSubBytes, InvShiftRows, InvMixColumns}
use Rattle.round.proofs.laws.Key.{key_bytes}
use Rattle.round.proofs.laws.Mix.{inv_mix_bytes}
use Rattle.round.proofs.laws.State.{inv_sub_at, add_at, added_is}
use Rattle.aes.specs.Cipher.{inv_rounds, InvCipher}
use Rattle.layout.specs.Ciphers.{inv_shifted}
use Rattle.layout.proofs.laws.Ciphers.{inv_shifted_lt}
use Rattle.layout.proofs.laws.Place.{shifted_lt}
use Rattle.whitebox.specs.Ciphers.{InverseCipher}
use Rattle.whitebox.specs.Parts.{Fine, inverse}
use Rattle.whitebox.specs.States.{keyed, mixed, state_after, result}
use Rattle.whitebox.proofs.laws.Bytewise.{inv_shift_at, mixed_by}

-- Either row shift reads one of 16 bytes, and every round key is bytes: which of them the inverse cipher takes is said by `keyed_by`.
pub inverse_fine : (nr : ℕ) (w : List ℕ) → Bytes w → Fine (inverse nr w)
unfolding inverse
inverse_fine nr w h =
    record {
      substitute_lt = inv_sbox_lt;
      reads_lt = search (inv_shifted_lt, shifted_lt);
      coefficient_lt = λ t q. inv_mix_bytes _;
      before_lt = λ r j. cond_lt (eqb r 1) (at (key_of w nr) j) 256 (lit< tt) (key_bytes w h nr j);
      behind_lt = λ r p. key_bytes w h _ p;
    }

module _ (nr : ℕ) (w : List ℕ) where
  -- Round r from the state t: in front of its column mixing.
  abbrev front : ℕ → List ℕ → List ℕ
  front r t = AddRoundKey (InvSubBytes (InvShiftRows t)) (key_of w (nr - r))

  -- t is s with what is added before the substitution of round r.
  keyed_by : (r : ℕ) (s t : List ℕ) → ((j : ℕ) → j < 16 → bit_xor (at s j) (cond (eqb r 1) (at (key_of w nr) j) 0) ≡ at t j) → keyed (inverse nr w) r s ≡ front r t
  unfolding keyed inverse
  keyed_by r s t before =
      added_is _ (InvSubBytes (InvShiftRows t)) (key_of w (nr - r)) (λ p h.
      ap (λ (x : ℕ). bit_xor x (at (key_of w (nr - r)) p))
      (ap inv_sbox_of (before (inv_shifted p) (inv_shifted_lt p h) ∙ sym (inv_shift_at t p h)) ∙ sym (inv_sub_at (InvShiftRows t) p h)))

  keyed_first : (b : List ℕ) → keyed (inverse nr w) 1 b ≡ front 1 (AddRoundKey b (key_of w nr))
  keyed_first b = keyed_by 1 b (AddRoundKey b (key_of w nr)) (λ j h. sym (add_at b (key_of w nr) j h))

  keyed_later : (r : ℕ) (s : List ℕ) → (r ≡ 1 → ⊥) → keyed (inverse nr w) r s ≡ front r s
  keyed_later r s ne = keyed_by r s s (λ j h. rw (ne_eqb r 1 ne) (xor_zero_r (at s j)))

  pub mixed_inverse : (s : List ℕ) → mixed (inverse nr w) s ≡ InvMixColumns s
  unfolding InvMixColumns inverse
  mixed_inverse s = mixed_by (inverse nr w) inv_mix_rows s (λ t q. refl)

  module _ (b : List ℕ) where
    -- InvCipher's state behind k of its rounds.
    abbrev behind : ℕ → List ℕ
    behind k = inv_rounds nr w k (AddRoundKey b (key_of w nr))

    -- Round r = k + 1: in front of its column mixing, and in the exit the result.
    pub front_inverse : (k : ℕ) → keyed (inverse nr w) (suc k) (state_after (inverse nr w) b k) ≡ front (suc k) (behind k)
    unfolding state_after inv_rounds
    front_inverse zero = keyed_first b
    front_inverse (suc k) =
        keyed_later (suc (suc k)) (state_after (inverse nr w) b (suc k)) (λ e. omega arith)
        ∙ ap (front (suc (suc k))) (mixed_inverse _ ∙ ap InvMixColumns (front_inverse k))

    pub state_inverse : (k : ℕ) → state_after (inverse nr w) b (suc k) ≡ behind (suc k)
    unfolding state_after inv_rounds
    state_inverse k = mixed_inverse _ ∙ ap InvMixColumns (front_inverse k)

pub inverse_cipher : InverseCipher
unfolding result InvCipher
inverse_cipher nr w b h =
    let k = nr - 1 in
    let last : nr ≡ suc k = omega arith in
    ap (λ (r : ℕ). keyed (inverse nr w) r (state_after (inverse nr w) b k)) last
    ∙ front_inverse nr w b k
    ∙ ap (λ (r : ℕ). AddRoundKey (InvSubBytes (InvShiftRows (behind nr w b k))) (key_of w r)) (let e : nr - suc k ≡ 0 = omega arith in e)
