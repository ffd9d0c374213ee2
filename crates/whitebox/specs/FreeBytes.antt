-- Free bytes: the statement. It is proved in proofs/laws/FreeBytes.antt. "Bytes between sections are free and not read" (document 01, "The
-- bundle"): two bundles of one length that agree in the first 40 bytes and in the five sections are one and the same for all that is told or
-- made of a bundle.
use Rattle.std.specs.Prelude.{List, ◌≡◌, ℕ, ◌<◌}
use Rattle.round.specs.Key.{rounds_of}
use Rattle.bundle.specs.Format.{frame, part_at}
use Rattle.bundle.specs.FreeBytes.{SameButFree}
use Rattle.judgement.specs.Judge.{judge}
use Rattle.external.specs.Coding.{encode_input, decode_input, encode_output, decode_output}
use Rattle.whitebox.specs.Bundles.{codings_of, made_set, made_table}

-- Causes 2 and 3, the whole judgement, every part, the external encodings of every block on and off, and the codings that tables are made from.
pub record SameBundle (nr : ℕ) (l l' : List ℕ) : Type 0 where
  pub frames : frame nr l ≡ frame nr l'
  pub judged : judge nr l ≡ judge nr l'
  pub parts : (s n : ℕ) → s < 5 → part_at nr l s n ≡ part_at nr l' s n
  pub input_on : (x : List ℕ) → encode_input nr l x ≡ encode_input nr l' x
  pub input_off : (x : List ℕ) → decode_input nr l x ≡ decode_input nr l' x
  pub output_on : (x : List ℕ) → encode_output nr l x ≡ encode_output nr l' x
  pub output_off : (x : List ℕ) → decode_output nr l x ≡ decode_output nr l' x
  pub codings : codings_of nr l ≡ codings_of nr l'

-- And the set, and each of its tables, of every cipher and key of nk words.
pub record SameMade (nk : ℕ) (l l' : List ℕ) : Type 0 where
  pub bundle : SameBundle (rounds_of nk) l l'
  pub set : (c : ℕ) (key : List ℕ) → made_set c nk key l ≡ made_set c nk key l'
  pub table : (c : ℕ) (key : List ℕ) (k : ℕ) → made_table c nk key l k ≡ made_table c nk key l' k

-- For any number of rounds, and any length of a key.
abbrev pub FreeBytes : Type 0
FreeBytes = (nr : ℕ) (l l' : List ℕ) → SameButFree nr l l' → SameBundle nr l l'

abbrev pub FreeBytesFor : ℕ → Type 0
FreeBytesFor nk = (l l' : List ℕ) → SameButFree (rounds_of nk) l l' → SameMade nk l l'

-- AES-128: a key of 16 bytes, ten rounds.
abbrev pub FreeBytes128 : Type 0
FreeBytes128 = FreeBytesFor 4
