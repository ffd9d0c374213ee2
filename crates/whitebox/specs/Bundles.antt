-- The codings that a bundle's bytes give, and what is made from a key and a bundle for a cipher c. Keys have nk words, and the number of rounds is
-- that of the key (4 words: ten rounds). Definitions only.
use Rattle.std.specs.Prelude.{cond, List, ℕ, ltb}
use Rattle.bits.specs.Encodings.{plain_encoding}
use Rattle.matrices.specs.Matrices.{identity}
use Rattle.round.specs.Key.{KeyExpansion, rounds_of}
use Rattle.aes.specs.Cipher.{encipher_of, decipher_of}
use Rattle.bundle.specs.Format.{encodings, byte_matrices, column_matrices, encoding_of, byte_matrix, column_matrix, input_matrix, output_matrix}
use Rattle.network.specs.Lookups.{State}
use Rattle.layout.specs.Ciphers.{for_cipher}
use Rattle.calls.specs.Calls.{Held, marked, holding}
use Rattle.whitebox.specs.Codings.{Codings}
use Rattle.whitebox.specs.Parts.{Parts, parts_for}
use Rattle.whitebox.specs.Tables.{table_of, set_of}
use Rattle.whitebox.specs.Values.{state_due}

-- The bundle's encodings and matrices by number. Behind the last number stand some that change nothing; no table uses them (InRange.antt).
unfoldable pub codings_of : ℕ → List ℕ → Codings
codings_of nr l =
    record {
      encoding = λ n. cond (ltb n (encodings nr)) (encoding_of nr l n) plain_encoding;
      byte_matrix = λ n. cond (ltb n (byte_matrices nr)) (byte_matrix nr l n) (identity 8);
      column_matrix = λ n. cond (ltb n (column_matrices nr)) (column_matrix nr l n) (identity 32);
      input_matrix = input_matrix nr l;
      output_matrix = output_matrix nr l;
    }

-- The cipher's parts under a key.
abbrev pub parts_of : ℕ → ℕ → List ℕ → Parts
parts_of c nk key = parts_for c (rounds_of nk) (KeyExpansion nk key)

-- What FIPS 197 makes of a block under a key: the cipher block, or the inverse cipher's block.
abbrev pub cipher_block : ℕ → ℕ → List ℕ → List ℕ → List ℕ
cipher_block c nk key b = for_cipher c (encipher_of nk key b) (decipher_of nk key b)

module _ (c nk : ℕ) (key l : List ℕ) where
  -- "A made set is the bytes that the rules here give for a key and an accepted bundle"; and table k of it.
  unfoldable pub made_set : List ℕ
  made_set = set_of (parts_of c nk key) (codings_of (rounds_of nk) l) (rounds_of nk)

  unfoldable pub made_table : ℕ → List ℕ
  made_table k = table_of (parts_of c nk key) (codings_of (rounds_of nk) l) (rounds_of nk) k

  -- The state in which each place holds what is due at count k, for the uncoded presented block b; and the walk that holds it.
  unfoldable pub due_at : List ℕ → ℕ → State
  due_at b k = state_due (parts_of c nk key) (codings_of (rounds_of nk) l) (rounds_of nk) b k

  abbrev pub due_held : List ℕ → ℕ → Held
  due_held b k = holding (marked c) (due_at b k)
