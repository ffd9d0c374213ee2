-- Laws, not definitions: what holds of the parts of both ciphers, from the laws of each (Forward.antt, Inverse.antt).
-- Assumes nothing.
use mathlib.Core.List.{List}
use mathlib.Core.Path.{◌≡◌, refl, ap, ◌∙◌, subst}
use Prim.Native.Nat.{ℕ, zero, suc, ◌-◌, ◌≤◌, ◌<◌}
use native.Mathlib.Omega.{arith}
use Rattle.bits.specs.Bytes.{Bytes, Block}
use Rattle.bits.specs.Lists.{at}
use Rattle.field.specs.Sbox.{sbox_of, inv_sbox_of}
use Rattle.round.specs.Key.{key_of, KeyExpansion, rounds_of}
use Rattle.round.specs.State.{entry, mix_rows, inv_mix_rows, SubBytes, ShiftRows, MixColumns, AddRoundKey, InvSubBytes, InvShiftRows}
use Rattle.aes.specs.Cipher.{rounds, inv_rounds, encipher_of, decipher_of}
use Rattle.aes.proofs.laws.Cipher.{encipher_block, decipher_block, decipher_encipher, encipher_decipher}
use Rattle.external.specs.Coding.{multiply}
use Rattle.layout.specs.Ciphers.{for_cipher, other, reads_of}
use Rattle.whitebox.specs.Bundles.{parts_of, cipher_block}
use Rattle.whitebox.specs.Ciphers.{before_mixing, behind_mixing, block_of, StatesByFips, DueByFips, PartsFine}
use Rattle.whitebox.specs.Parts.{forward, inverse, parts_for}
use Rattle.whitebox.specs.States.{keyed, state_after, result}
use Rattle.whitebox.specs.Values.{under_bytes, under_columns, ended}
use Rattle.whitebox.specs.Words.{mixed_word, second_word_of, placed_word}
use Rattle.whitebox.proofs.laws.Forward.{forward_fine, forward_cipher, mixed_forward, front_forward}
use Rattle.whitebox.proofs.laws.Inverse.{inverse_fine, inverse_cipher, front_inverse, state_inverse}

pub parts_fine : PartsFine
parts_fine zero = forward_fine
parts_fine (suc c) = inverse_fine

-- ---- what the parts of the cipher c are
module _ (nr : ℕ) (w : List ℕ) where
  pub parts_substitute : (c : ℕ) → (parts_for c nr w).substitute ≡ for_cipher c sbox_of inv_sbox_of
  unfolding forward inverse
  parts_substitute zero = refl
  parts_substitute (suc c) = refl

  pub parts_read : (c : ℕ) → (parts_for c nr w).reads ≡ reads_of c
  unfolding forward inverse
  parts_read zero = refl
  parts_read (suc c) = refl

  pub parts_mix : (c : ℕ) → (parts_for c nr w).coefficient ≡ entry (for_cipher c mix_rows inv_mix_rows)
  unfolding forward inverse
  parts_mix zero = refl
  parts_mix (suc c) = refl

-- ---- of a key: the result is FIPS 197's block, which is a block, and the other cipher takes it back
pub result_is : (c nk : ℕ) (key b : List ℕ) → 1 ≤ rounds_of nk → result (parts_of c nk key) (rounds_of nk) b ≡ cipher_block c nk key b
unfolding encipher_of decipher_of
result_is zero nk key b some = forward_cipher (rounds_of nk) (KeyExpansion nk key) b some
result_is (suc c) nk key b some = inverse_cipher (rounds_of nk) (KeyExpansion nk key) b some

pub cipher_block_lem : (c nk : ℕ) (key b : List ℕ) → Bytes key → Block b → Block (cipher_block c nk key b)
cipher_block_lem zero = encipher_block
cipher_block_lem (suc c) = decipher_block

pub other_undoes : (c nk : ℕ) (key b : List ℕ) → Bytes key → Block b → cipher_block (other c) nk key (cipher_block c nk key b) ≡ b
other_undoes zero = decipher_encipher
other_undoes (suc c) = encipher_decipher

-- ---- the states are FIPS 197's: in front of the column mixing of round r, behind it, and at the end
front_is : (c nr : ℕ) (w b : List ℕ) (r : ℕ) → 1 ≤ r → r < nr → keyed (parts_for c nr w) r (state_after (parts_for c nr w) b (r - 1)) ≡ before_mixing c nr w b r
front_is c nr w b zero low high = absurd (omega arith)
front_is zero nr w b (suc k) low high =
    subst (λ (j : ℕ). keyed (forward nr w) (suc k) (state_after (forward nr w) b j) ≡ ShiftRows (SubBytes (rounds w j (AddRoundKey b (key_of w 0)))))
    (let e : k ≡ suc k - 1 = omega arith in e) (front_forward nr w b k high)
front_is (suc c) nr w b (suc k) low high =
    subst (λ (j : ℕ). keyed (inverse nr w) (suc k) (state_after (inverse nr w) b j)
    ≡ AddRoundKey (InvSubBytes (InvShiftRows (inv_rounds nr w j (AddRoundKey b (key_of w nr))))) (key_of w (nr - suc k)))
    (let e : k ≡ suc k - 1 = omega arith in e) (front_inverse nr w b k)

state_is : (c nr : ℕ) (w b : List ℕ) (r : ℕ) → r < nr → state_after (parts_for c nr w) b r ≡ behind_mixing c nr w b r
unfolding state_after behind_mixing
state_is c nr w b zero high = refl
state_is zero nr w b (suc k) high = mixed_forward nr w _ ∙ ap MixColumns (front_forward nr w b k high)
state_is (suc c) nr w b (suc k) high = state_inverse nr w b k

pub states_by_fips : StatesByFips
states_by_fips c nr w b = record { before_mixing_lem = front_is c nr w b; behind_mixing_lem = state_is c nr w b }

block_is : (c nr : ℕ) (w b : List ℕ) → 1 ≤ nr → result (parts_for c nr w) nr b ≡ block_of c nr w b
block_is zero = forward_cipher
block_is (suc c) = inverse_cipher

pub due_by_fips : DueByFips
unfolding ended
due_by_fips c nr w b C some =
    let P = parts_for c nr w in
    record {
      entry = record { standing = refl; word = λ p. refl };
      first = λ r low high.
          record {
            standing = ap (under_bytes C r) (state_is c nr w b (r - 1) (omega arith));
            word = λ p. ap (λ (s : List ℕ). mixed_word P C r p (at s p)) (front_is c nr w b r low high);
          };
      second = λ r low high.
          record {
            standing = ap (under_columns C r) (state_is c nr w b r high);
            word = λ p. ap (λ (s : List ℕ). second_word_of P C r p (at (under_columns C r s) p)) (state_is c nr w b r high);
          };
      exit =
          record {
            standing = ap (under_bytes C nr) (state_is c nr w b (nr - 1) (omega arith));
            word = λ p. ap (λ (s : List ℕ). placed_word P C p (at s p)) (block_is c nr w b some);
            end = ap (multiply C.output_matrix) (block_is c nr w b some);
          };
    }
