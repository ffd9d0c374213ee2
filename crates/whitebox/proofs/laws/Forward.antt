-- Laws, not definitions: the forward parts give FIPS 197's cipher, and its states between and inside the rounds.
-- Assumes nothing.
use mathlib.Core.List.{List}
use mathlib.Core.Path.{◌≡◌, refl, sym, ap, ◌∙◌}
use Prim.Native.Nat.{ℕ, zero, suc, ◌-◌, ◌<◌}
use native.Mathlib.Omega.{arith}
use borrow.Author.Tests.{eq-eqb, ne_eqb}
use lib.Bits.{bit_xor, xor_zero_r}
use lib.Dec.{eqb, lit<}
use Rattle.bits.specs.Bytes.{Bytes}
use Rattle.bits.specs.Lists.{at}
use Rattle.bits.proofs.laws.Xor.{cond_lt}
use Rattle.field.specs.Sbox.{sbox_of}
use Rattle.field.proofs.laws.Sbox.{sbox_lt}
use Rattle.round.specs.Key.{key_of}
use Rattle.round.specs.State.{mix_rows, SubBytes, ShiftRows, MixColumns, AddRoundKey}
use Rattle.round.proofs.laws.Key.{key_bytes}
use Rattle.round.proofs.laws.Mix.{mix_bytes}
use Rattle.round.proofs.laws.State.{sub_at, add_at, shifted_is, added_is}
use Rattle.aes.specs.Cipher.{rounds, Cipher}
use Rattle.layout.specs.Stages.{shifted}
use Rattle.layout.proofs.laws.Place.{shifted_lt}
use Rattle.whitebox.specs.Ciphers.{ForwardCipher}
use Rattle.whitebox.specs.Parts.{Fine, forward}
use Rattle.whitebox.specs.States.{keyed, mixed, state_after, result}
use Rattle.whitebox.proofs.laws.Bytewise.{shift_at, mixed_by}

pub forward_fine : (nr : ℕ) (w : List ℕ) → Bytes w → Fine (forward nr w)
unfolding forward
forward_fine nr w h =
    record {
      substitute_lt = sbox_lt;
      reads_lt = shifted_lt;
      coefficient_lt = λ t q. mix_bytes _;
      before_lt = λ r j. key_bytes w h (r - 1) j;
      behind_lt = λ r p. cond_lt (eqb r nr) (at (key_of w nr) p) 256 (lit< tt) (key_bytes w h nr p);
    }

module _ (nr : ℕ) (w : List ℕ) where
  -- What stands in front of the column mixing, but for the last round's key.
  abbrev front : ℕ → List ℕ → List ℕ
  front r s = ShiftRows (SubBytes (AddRoundKey s (key_of w r)))

  substituted_at : (r : ℕ) (s : List ℕ) (p : ℕ) → p < 16
      → sbox_of (bit_xor (at s (shifted p)) (at (key_of w (suc r - 1)) (shifted p))) ≡ at (front r s) p
  substituted_at r s p h =
      let j = shifted p in
      let small = shifted_lt p h in
      ap (λ (k : ℕ). sbox_of (bit_xor (at s j) (at (key_of w k) j))) (let e : suc r - 1 ≡ r = omega arith in e)
      ∙ sym (shift_at _ p h ∙ sub_at _ j small ∙ ap sbox_of (add_at s (key_of w r) j small))

  -- Before the last round nothing is added behind the substitution; in the last round, its key.
  keyed_inner : (r : ℕ) (s : List ℕ) → (suc r ≡ nr → ⊥) → keyed (forward nr w) (suc r) s ≡ front r s
  unfolding keyed forward
  keyed_inner r s ne = shifted_is _ _ (λ p h. rw (ne_eqb (suc r) nr ne) (xor_zero_r _ ∙ substituted_at r s p h))

  keyed_last : (r : ℕ) (s : List ℕ) → suc r ≡ nr → keyed (forward nr w) (suc r) s ≡ AddRoundKey (front r s) (key_of w nr)
  unfolding keyed forward
  keyed_last r s e =
      added_is _ (front r s) (key_of w nr) (λ p h.
      rw (eq-eqb (suc r) nr e) (ap (λ (x : ℕ). bit_xor x (at (key_of w nr) p)) (substituted_at r s p h)))

  pub mixed_forward : (s : List ℕ) → mixed (forward nr w) s ≡ MixColumns s
  unfolding MixColumns forward
  mixed_forward s = mixed_by (forward nr w) mix_rows s (λ t q. refl)

  rounds_are : (b : List ℕ) (r : ℕ) → r < nr → rounds w r (AddRoundKey b (key_of w 0)) ≡ AddRoundKey (state_after (forward nr w) b r) (key_of w r)
  unfolding rounds state_after
  rounds_are b zero h = refl
  rounds_are b (suc r) h =
      ap (λ (s : List ℕ). AddRoundKey s (key_of w (suc r)))
      (ap (λ (s : List ℕ). MixColumns (ShiftRows (SubBytes s))) (rounds_are b r (omega arith))
      ∙ ap MixColumns (sym (keyed_inner r (state_after (forward nr w) b r) (λ e. omega arith)))
      ∙ sym (mixed_forward (keyed (forward nr w) (suc r) (state_after (forward nr w) b r))))

  -- Round r = k + 1: in front of its column mixing.
  pub front_forward : (b : List ℕ) (k : ℕ) → suc k < nr
      → keyed (forward nr w) (suc k) (state_after (forward nr w) b k) ≡ ShiftRows (SubBytes (rounds w k (AddRoundKey b (key_of w 0))))
  front_forward b k h =
      keyed_inner k (state_after (forward nr w) b k) (λ e. omega arith)
      ∙ ap (λ (s : List ℕ). ShiftRows (SubBytes s)) (sym (rounds_are b k (omega arith)))

pub forward_cipher : ForwardCipher
unfolding result Cipher
forward_cipher nr w b h =
    let r = nr - 1 in
    let last : suc r ≡ nr = omega arith in
    ap (λ (n : ℕ). keyed (forward nr w) n (state_after (forward nr w) b r)) (sym last)
    ∙ keyed_last nr w r (state_after (forward nr w) b r) last
    ∙ ap (λ (s : List ℕ). AddRoundKey (ShiftRows (SubBytes s)) (key_of w nr)) (sym (rounds_are nr w b r (omega arith)))
