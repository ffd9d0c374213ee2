-- What the parts of the two ciphers are, for a reader: the statements. They are proved in proofs/laws/Forward.antt, Inverse.antt and Ciphers.antt. The inverse
-- cipher is FIPS 197's own (5.3), not its equivalent one (5.3.5).
use Rattle.std.specs.Prelude.{List, ◌≡◌, ℕ, zero, suc, ◌-◌, ◌≤◌, ◌<◌}
use Rattle.bits.specs.Bytes.{Bytes}
use Rattle.bits.specs.Lists.{at}
use Rattle.round.specs.Key.{key_of}
use Rattle.round.specs.State.{SubBytes, ShiftRows, MixColumns, AddRoundKey, InvSubBytes, InvShiftRows}
use Rattle.aes.specs.Cipher.{rounds, Cipher, inv_rounds, InvCipher}
use Rattle.external.specs.Coding.{multiply}
use Rattle.layout.specs.Ciphers.{for_cipher}
use Rattle.layout.specs.declared.stage.Stage.TheVariants.{Entry, First, Second, Exit}
use Rattle.whitebox.specs.Codings.{Codings}
use Rattle.whitebox.specs.Parts.{Parts, Fine, forward, inverse, parts_for}
use Rattle.whitebox.specs.States.{keyed, state_after, result}
use Rattle.whitebox.specs.Values.{under_bytes, under_columns, standing_at, word_at, ended}
use Rattle.whitebox.specs.Words.{entry_word, mixed_word, second_word_of, placed_word}

-- The forward parts give FIPS 197's cipher and the inverse parts its inverse cipher, for any number of rounds and any round keys.
abbrev pub ForwardCipher : Type 0
ForwardCipher = (nr : ℕ) (w b : List ℕ) → 1 ≤ nr → result (forward nr w) nr b ≡ Cipher nr w b

abbrev pub InverseCipher : Type 0
InverseCipher = (nr : ℕ) (w b : List ℕ) → 1 ≤ nr → result (inverse nr w) nr b ≡ InvCipher nr w b

-- ---- the values due in FIPS 197's own names
-- The states that Cipher and InvCipher (aes/specs/Cipher.antt) run through from the block b, for the cipher c of nr rounds over the round keys w.
module _ (c nr : ℕ) (w b : List ℕ) where
  -- In round r, in front of MixColumns, or of InvMixColumns.
  abbrev pub before_mixing : ℕ → List ℕ
  before_mixing r =
      for_cipher c (ShiftRows (SubBytes (rounds w (r - 1) (AddRoundKey b (key_of w 0)))))
      (AddRoundKey (InvSubBytes (InvShiftRows (inv_rounds nr w (r - 1) (AddRoundKey b (key_of w nr))))) (key_of w (nr - r)))

  -- In round r, behind it: Cipher's state before it adds round key r, InvCipher's behind r of its rounds. Before the first round it is the block, to which
  -- no round key is added yet.
  unfoldable pub behind_mixing : ℕ → List ℕ
  behind_mixing zero = b
  behind_mixing (suc r) =
      for_cipher c (MixColumns (ShiftRows (SubBytes (rounds w r (AddRoundKey b (key_of w 0)))))) (inv_rounds nr w (suc r) (AddRoundKey b (key_of w nr)))

  -- At the end.
  abbrev pub block_of : List ℕ
  block_of = for_cipher c (Cipher nr w b) (InvCipher nr w b)

-- The states that the parts give (States.antt) are these.
pub record StatesDue (c nr : ℕ) (w b : List ℕ) : Type 0 where
  pub before_mixing_lem : (r : ℕ) → 1 ≤ r → r < nr → keyed (parts_for c nr w) r (state_after (parts_for c nr w) b (r - 1)) ≡ before_mixing c nr w b r
  pub behind_mixing_lem : (r : ℕ) → r < nr → state_after (parts_for c nr w) b r ≡ behind_mixing c nr w b r

abbrev pub StatesByFips : Type 0
StatesByFips = (c nr : ℕ) (w b : List ℕ) → StatesDue c nr w b

-- The values due (Values.antt) over any codings C, stage by stage: the bytes that stand at its start, and for each position p the word of its spread lookup. The words are
-- Words.antt's, with the coefficients of the cipher's parts, which are MixColumns' or InvMixColumns' own (Parts.antt).
module _ (c nr : ℕ) (w b : List ℕ) (C : Codings) where
  abbrev P : Parts
  P = parts_for c nr w

  pub record AtEntry : Type 0 where
    pub standing : standing_at P C nr b Entry ≡ multiply C.input_matrix b
    pub word : (p : ℕ) → word_at P C nr b Entry p ≡ entry_word P C p (at (multiply C.input_matrix b) p)

  -- In round 1 the block itself stands under its byte matrices.
  pub record AtFirst (r : ℕ) : Type 0 where
    pub standing : standing_at P C nr b (First r) ≡ under_bytes C r (behind_mixing c nr w b (r - 1))
    pub word : (p : ℕ) → word_at P C nr b (First r) p ≡ mixed_word P C r p (at (before_mixing c nr w b r) p)

  pub record AtSecond (r : ℕ) : Type 0 where
    pub standing : standing_at P C nr b (Second r) ≡ under_columns C r (behind_mixing c nr w b r)
    pub word : (p : ℕ) → word_at P C nr b (Second r) p ≡ second_word_of P C r p (at (under_columns C r (behind_mixing c nr w b r)) p)

  -- And what stands behind the last lookup.
  pub record AtExit : Type 0 where
    pub standing : standing_at P C nr b Exit ≡ under_bytes C nr (behind_mixing c nr w b (nr - 1))
    pub word : (p : ℕ) → word_at P C nr b Exit p ≡ placed_word P C p (at (block_of c nr w b) p)
    pub end : ended P C nr b ≡ multiply C.output_matrix (block_of c nr w b)

  pub record ValuesDue : Type 0 where
    pub entry : AtEntry
    pub first : (r : ℕ) → 1 ≤ r → r < nr → AtFirst r
    pub second : (r : ℕ) → 1 ≤ r → r < nr → AtSecond r
    pub exit : AtExit

-- "Each worked out from FIPS 197's state and the matrices" (document 01), for either cipher.
abbrev pub DueByFips : Type 0
DueByFips = (c nr : ℕ) (w b : List ℕ) (C : Codings) → 1 ≤ nr → ValuesDue c nr w b C

-- The parts are bytes where the round keys are.
abbrev pub PartsFine : Type 0
PartsFine = (c nr : ℕ) (w : List ℕ) → Bytes w → Fine (parts_for c nr w)
