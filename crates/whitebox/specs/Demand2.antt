-- DEMAND 2, for a reader to hold against the mission and document 02, Ticket 1; proved in proofs/laws/Demands.antt. Walking the set made for a cipher, by a
-- walk started for it, over the block under the input coding gives FIPS 197's cipher block, or its inverse cipher's block, under the output coding; uncoding
-- and deciphering, or enciphering, gives the block again.
use Rattle.std.specs.Prelude.{List, ◌≡◌, ℕ, ◌*◌, length}
use Rattle.bits.specs.Bytes.{Bytes, Block}
use Rattle.round.specs.Key.{rounds_of}
use Rattle.judgement.specs.Judge.{judge}
use Rattle.external.specs.Coding.{encode_input, encode_output, decode_output}
use Rattle.layout.specs.Ciphers.{other}
use Rattle.calls.specs.Calls.{walked_over}
use Rattle.whitebox.specs.Bundles.{cipher_block, made_set}
use Rattle.answers.specs.Answer.{Accepted}

-- Of any memory `set`: the walk over it, from the block b under the input coding, answers as demand 2 says.
pub record WalkIsCipher (c nk : ℕ) (key l set b lent : List ℕ) : Type 0 where
  pub coded : walked_over c (rounds_of nk) set (encode_input (rounds_of nk) l b) lent ≡ encode_output (rounds_of nk) l (cipher_block c nk key b)
  pub uncoded : decode_output (rounds_of nk) l (walked_over c (rounds_of nk) set (encode_input (rounds_of nk) l b) lent) ≡ cipher_block c nk key b
  -- Deciphering where the cipher is the forward one, enciphering where it is the inverse one.
  pub undone : cipher_block (other c) nk key (decode_output (rounds_of nk) l (walked_over c (rounds_of nk) set (encode_input (rounds_of nk) l b) lent)) ≡ b

-- For every cipher, key of nk words, accepted bundle and block.
abbrev pub Demand2For : ℕ → Type 0
Demand2For nk =
    (c : ℕ) (key l b lent : List ℕ) → length key ≡ 4 * nk → Bytes key → Bytes l → judge (rounds_of nk) l ≡ Accepted → Block b → length lent ≡ 16
    → WalkIsCipher c nk key l (made_set c nk key l) b lent

-- AES-128: a key of 16 bytes, ten rounds.
abbrev pub Demand2 : Type 0
Demand2 = Demand2For 4
