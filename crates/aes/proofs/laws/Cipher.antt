-- Laws, not definitions: the inverse cipher undoes the cipher, both ways round, for any number of rounds and any round keys.
-- Assumes nothing.
use mathlib.Core.Path.{◌≡◌, ap, ◌∙◌}
use mathlib.Core.List.{List}
use Prim.Native.Nat.{ℕ, zero, suc, ◌+◌, ◌-◌}
use native.Mathlib.Omega.{arith}
use Rattle.bits.specs.Bytes.{Bytes, Block}
use Rattle.round.specs.State.{SubBytes, ShiftRows, MixColumns, AddRoundKey, InvSubBytes, InvShiftRows, InvMixColumns}
use Rattle.round.specs.Key.{key_of, KeyExpansion, rounds_of}
use Rattle.round.proofs.laws.State.{sub_block, inv_sub_block, inv_sub, sub_inv, shift_block, inv_shift_block, inv_shift, shift_inv, add_block, add_back}
use Rattle.round.proofs.laws.Mix.{mix_block, inv_mix_block, inv_mix, mix_inv}
use Rattle.round.proofs.laws.Key.{key_bytes, round_key_bytes}
use Rattle.aes.specs.Cipher.{rounds, Cipher, inv_rounds, InvCipher, encipher_of, decipher_of}
use Rattle.aes.specs.Theorems.{CipherBlock, InvCipherBlock, InvCipherCipher, CipherInvCipher, DecipherEncipher, EncipherDecipher}

-- The first two steps of a round, and what undoes them.
first : List ℕ → List ℕ
first s = ShiftRows (SubBytes s)

undo : List ℕ → List ℕ
undo s = InvSubBytes (InvShiftRows s)

first_block : (s : List ℕ) → Block s → Block (first s)
unfolding first
first_block s b = shift_block _ (sub_block s b)

undo_block : (s : List ℕ) → Block s → Block (undo s)
unfolding undo
undo_block s b = inv_sub_block _ (inv_shift_block s b)

undo_first : (s : List ℕ) → Block s → undo (first s) ≡ s
unfolding first undo
undo_first s b = ap InvSubBytes (inv_shift (SubBytes s) (sub_block s b).long) ∙ inv_sub s b

first_undo : (s : List ℕ) → Block s → first (undo s) ≡ s
unfolding first undo
first_undo s b = ap ShiftRows (sub_inv (InvShiftRows s) (inv_shift_block s b)) ∙ shift_inv s b.long

module _ (w : List ℕ) (l : Bytes w) where
  add : (s : List ℕ) (r : ℕ) → Block s → Block (AddRoundKey s (key_of w r))
  add s r b = add_block s (key_of w r) b (key_bytes w l r)

  pub rounds_block : (r : ℕ) (s : List ℕ) → Block s → Block (rounds w r s)
  unfolding rounds
  rounds_block zero s b = b
  rounds_block (suc r) s b = add _ (suc r) (mix_block _)

  inv_rounds_block : (nr r : ℕ) (s : List ℕ) → Block s → Block (inv_rounds nr w r s)
  unfolding inv_rounds
  inv_rounds_block nr zero s b = b
  inv_rounds_block nr (suc r) s b = inv_mix_block _

  -- r rounds of the inverse cipher take the last r of the cipher's back, and leave m.
  rounds_back : (nr : ℕ) (s : List ℕ) → Block s → (r m : ℕ) → r + m ≡ nr - 1 → inv_rounds nr w r (first (rounds w (nr - 1) s)) ≡ first (rounds w m s)
  unfolding rounds inv_rounds first undo
  rounds_back nr s b zero m e = ap (λ (n : ℕ). first (rounds w n s)) (let same : nr - 1 ≡ m = omega arith in same)
  rounds_back nr s b (suc r) m e =
      let t : List ℕ = first (rounds w m s) in
      let k : List ℕ = key_of w (suc m) in
      ap (λ (z : List ℕ). InvMixColumns (AddRoundKey (undo z) (key_of w (nr - suc r)))) (rounds_back nr s b r (suc m) (omega arith))
      ∙ ap (λ (n : ℕ). InvMixColumns (AddRoundKey (undo (first (AddRoundKey (MixColumns t) k))) (key_of w n))) (let its : nr - suc r ≡ suc m = omega arith in its)
      ∙ ap (λ (z : List ℕ). InvMixColumns (AddRoundKey z k)) (undo_first _ (add (MixColumns t) (suc m) (mix_block t)))
      ∙ ap InvMixColumns (add_back (MixColumns t) k (mix_block t).long)
      ∙ inv_mix t (first_block _ (rounds_block m s b))

  -- And the other way round.
  back_rounds : (nr : ℕ) (s : List ℕ) → Block s → (r m : ℕ) → r + m ≡ nr - 1 → rounds w r (undo (inv_rounds nr w (nr - 1) s)) ≡ undo (inv_rounds nr w m s)
  unfolding rounds inv_rounds first undo
  back_rounds nr s b zero m e = ap (λ (n : ℕ). undo (inv_rounds nr w n s)) (let same : nr - 1 ≡ m = omega arith in same)
  back_rounds nr s b (suc r) m e =
      let t : List ℕ = undo (inv_rounds nr w m s) in
      let k : List ℕ = key_of w (suc r) in
      let h : Block t = undo_block _ (inv_rounds_block nr m s b) in
      ap (λ (z : List ℕ). AddRoundKey (MixColumns (first z)) k) (back_rounds nr s b r (suc m) (omega arith))
      ∙ ap (λ (n : ℕ). AddRoundKey (MixColumns (first (undo (InvMixColumns (AddRoundKey t (key_of w n)))))) k) (let its : nr - suc m ≡ suc r = omega arith in its)
      ∙ ap (λ (z : List ℕ). AddRoundKey (MixColumns z) k) (first_undo _ (inv_mix_block _))
      ∙ ap (λ (z : List ℕ). AddRoundKey z k) (mix_inv _ (add t (suc r) h))
      ∙ add_back t k h.long

pub cipher_block_lem : CipherBlock
unfolding Cipher first
cipher_block_lem w l nr s b = add w l _ nr (first_block _ (rounds_block w l (nr - 1) _ (add w l s 0 b)))

pub inv_cipher_block : InvCipherBlock
unfolding InvCipher undo
inv_cipher_block w l nr s b = add w l _ 0 (undo_block _ (inv_rounds_block w l nr (nr - 1) _ (add w l s nr b)))

pub inv_cipher_cipher : InvCipherCipher
unfolding rounds Cipher InvCipher first undo
inv_cipher_cipher w l nr s b =
    let t : List ℕ = AddRoundKey s (key_of w 0) in
    let h : Block t = add w l s 0 b in
    ap (λ (z : List ℕ). AddRoundKey (undo (inv_rounds nr w (nr - 1) z)) (key_of w 0))
    (add_back (first (rounds w (nr - 1) t)) (key_of w nr) (first_block _ (rounds_block w l (nr - 1) t h)).long)
    ∙ ap (λ (z : List ℕ). AddRoundKey (undo z) (key_of w 0)) (rounds_back w l nr t h (nr - 1) 0 (omega arith))
    ∙ ap (λ (z : List ℕ). AddRoundKey z (key_of w 0)) (undo_first t h)
    ∙ add_back s (key_of w 0) b.long

pub cipher_inv_cipher : CipherInvCipher
unfolding inv_rounds Cipher InvCipher first undo
cipher_inv_cipher w l nr s b =
    let t : List ℕ = AddRoundKey s (key_of w nr) in
    let h : Block t = add w l s nr b in
    ap (λ (z : List ℕ). AddRoundKey (first (rounds w (nr - 1) z)) (key_of w nr))
    (add_back (undo (inv_rounds nr w (nr - 1) t)) (key_of w 0) (undo_block _ (inv_rounds_block w l nr (nr - 1) t h)).long)
    ∙ ap (λ (z : List ℕ). AddRoundKey (first z) (key_of w nr)) (back_rounds w l nr t h (nr - 1) 0 (omega arith))
    ∙ ap (λ (z : List ℕ). AddRoundKey z (key_of w nr)) (first_undo t h)
    ∙ add_back s (key_of w nr) b.long

-- ---- With a key of nk words.
pub encipher_block : (nk : ℕ) (key s : List ℕ) → Bytes key → Block s → Block (encipher_of nk key s)
unfolding encipher_of
encipher_block nk key s k b = cipher_block_lem (KeyExpansion nk key) (round_key_bytes nk key k) (rounds_of nk) s b

pub decipher_block : (nk : ℕ) (key s : List ℕ) → Bytes key → Block s → Block (decipher_of nk key s)
unfolding decipher_of
decipher_block nk key s k b = inv_cipher_block (KeyExpansion nk key) (round_key_bytes nk key k) (rounds_of nk) s b

pub decipher_encipher : DecipherEncipher
unfolding encipher_of decipher_of
decipher_encipher nk key s k b = inv_cipher_cipher (KeyExpansion nk key) (round_key_bytes nk key k) (rounds_of nk) s b

pub encipher_decipher : EncipherDecipher
unfolding encipher_of decipher_of
encipher_decipher nk key s k b = cipher_inv_cipher (KeyExpansion nk key) (round_key_bytes nk key k) (rounds_of nk) s b
