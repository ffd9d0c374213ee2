-- Laws, not definitions: of the answers case by case, and that one call undoes the other.
-- Assumes nothing.
use mathlib.Core.Path.{◌≡◌, sym, ◌∙◌}
use mathlib.Core.List.{List}
use Prim.Native.Nat.{ℕ}
use lib.ListN.{length}
use Rattle.bits.specs.Bytes.{Bytes, Block}
use Rattle.answers.specs.Answers.{and_then, wants_length, if_accepted}
use Rattle.answers.specs.declared.Refusal.{Refusal}
use Rattle.answers.specs.declared.Refusal.TheVariants.{KeyLength, BlockLength}
use Rattle.answers.proofs.laws.Tests.{first_refuses, second_decides, both, length_wrong, length_right, length_was, left_new, left_old}
use Rattle.answers.proofs.laws.Tests.{from_wrong, to_wrong, lengths_right, lengths_were}
use Rattle.round.specs.Key.{KeyExpansion}
use Rattle.aes.specs.Cipher.{Cipher, InvCipher, encipher_of, decipher_of}
use Rattle.aes.specs.Answers.{answer_of, enciphered, deciphered}
use Rattle.aes.specs.Theorems.{ThereAndBack, BackAndThere}
use Rattle.aes.proofs.laws.Cipher.{encipher_block, decipher_block, decipher_encipher, encipher_decipher}
use Rattle.answers.specs.Answer.{Answer, Accepted, Refused}

-- ---- The answer, test by test.
module _ (key from into : List ℕ) where
  pub bad_key : (length key ≡ 16 → ⊥) → Refused KeyLength ≡ answer_of key from into
  unfolding answer_of
  bad_key h = first_refuses _ _ _ (sym (length_wrong 16 (length key) KeyLength h))

  by_blocks : length key ≡ 16 → and_then (wants_length 16 (length from) BlockLength) (wants_length 16 (length into) BlockLength) ≡ answer_of key from into
  unfolding answer_of
  by_blocks k = second_decides _ _ (sym (length_right 16 (length key) KeyLength k))

  pub bad_from : length key ≡ 16 → (length from ≡ 16 → ⊥) → Refused BlockLength ≡ answer_of key from into
  bad_from k h = from_wrong 16 _ (length into) BlockLength h ∙ by_blocks k

  pub bad_into : length key ≡ 16 → length from ≡ 16 → (length into ≡ 16 → ⊥) → Refused BlockLength ≡ answer_of key from into
  bad_into k f h = to_wrong _ _ _ _ f h ∙ by_blocks k

  pub good : length key ≡ 16 → length from ≡ 16 → length into ≡ 16 → Accepted ≡ answer_of key from into
  good k f h = lengths_right _ _ _ _ f h ∙ by_blocks k

-- ---- What an accepted call was lent.
pub record Lengths (key from into : List ℕ) : Type 0 where
  pub of_key : length key ≡ 16
  pub of_from : length from ≡ 16
  pub of_into : length into ≡ 16

pub accepted : (key from into : List ℕ) → answer_of key from into ≡ Accepted → Lengths key from into
unfolding answer_of
accepted key from into e =
    let k = both _ _ e in
    let b = lengths_were _ _ _ _ k.second in
    record { of_key = length_was _ _ _ k.first; of_from = b.0; of_into = b.1 }

-- ---- What a call that was answered a has been lent, where it goes on.
module _ (key from into : List ℕ) {a : Answer} (e : a ≡ answer_of key from into) (d : a ≡ Accepted) where
  pub lent_key : length key ≡ 16
  lent_key = (accepted key from into (sym e ∙ d)).of_key

  pub lent_from : length from ≡ 16
  lent_from = (accepted key from into (sym e ∙ d)).of_from

  pub lent_into : length into ≡ 16
  lent_into = (accepted key from into (sym e ∙ d)).of_into

-- ---- The block that a call leaves, from what it called: f is the cipher or the inverse cipher over round keys.
module _ (key from into : List ℕ) {a : Answer} (e : a ≡ answer_of key from into) where
  done : (f : List ℕ → List ℕ → List ℕ) {w s t o : List ℕ} → a ≡ Accepted → w ≡ KeyExpansion 4 key → s ≡ from → t ≡ f w s → o ≡ t
      → o ≡ if_accepted (answer_of key from into) (f (KeyExpansion 4 key) from) into
  done f {o = o} d p q u v =
      let y : o ≡ f (KeyExpansion 4 key) from = cc in
      y ∙ left_new _ _ _ (sym e ∙ d)

  pub encipher_refused : {r : Refusal} → a ≡ Refused r → into ≡ enciphered key from into
  unfolding enciphered
  encipher_refused {r} d = left_old _ r _ _ (sym e ∙ d)

  pub decipher_refused : {r : Refusal} → a ≡ Refused r → into ≡ deciphered key from into
  unfolding deciphered
  decipher_refused {r} d = left_old _ r _ _ (sym e ∙ d)

  pub encipher_done : {w s t o : List ℕ} → a ≡ Accepted → w ≡ KeyExpansion 4 key → s ≡ from → t ≡ Cipher 10 w s → o ≡ t
      → o ≡ enciphered key from into
  unfolding enciphered encipher_of
  encipher_done = done (Cipher 10)

  pub decipher_done : {w s t o : List ℕ} → a ≡ Accepted → w ≡ KeyExpansion 4 key → s ≡ from → t ≡ InvCipher 10 w s → o ≡ t
      → o ≡ deciphered key from into
  unfolding deciphered decipher_of
  decipher_done = done (InvCipher 10)

-- ---- One call undoes the other.
module _ (key from into again : List ℕ) (e : answer_of key from into ≡ Accepted) (l : length again ≡ 16) (p : Bytes from) where
  -- A function of blocks and one that undoes it, as what two calls under one key leave.
  round_trip : (f g : List ℕ → List ℕ) → (Block from → Block (f from)) → (Block from → g (f from) ≡ from)
      → let x : List ℕ = if_accepted (answer_of key from into) (f from) into in if_accepted (answer_of key x again) (g x) again ≡ from
  round_trip f g h u =
      let a = accepted key from into e in
      let b : Block from = record { long = a.of_from; bytes = p } in
      let d = good key (f from) again a.of_key (h b).long l in
      rw (e, ← d) (u b)

pub there_and_back : ThereAndBack
unfolding enciphered deciphered
there_and_back key from into again k p e l =
    round_trip key from into again e l p (encipher_of 4 key) (decipher_of 4 key) (encipher_block 4 key from k) (decipher_encipher 4 key from k)

pub back_and_there : BackAndThere
unfolding enciphered deciphered
back_and_there key from into again k p e l =
    round_trip key from into again e l p (decipher_of 4 key) (encipher_of 4 key) (decipher_block 4 key from k) (encipher_decipher 4 key from k)
