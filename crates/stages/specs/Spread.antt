-- What the words of a spread table are made of, by its stage: the byte that is read, the byte that the word is linear in, the word. Definitions only.
use Rattle.std.specs.Prelude.{List, [], ℕ, ◌+◌, ◌*◌, ◌/◌, ◌%◌}
use Rattle.bits.specs.Bytes.{number_of}
use Rattle.bits.specs.Encodings.{decode}
use Rattle.bits.specs.Lists.{tabulate}
use Rattle.bits.specs.Nibbles.{pack}
use Rattle.bundle.specs.Format.{encoding_of}
use Rattle.layout.specs.Ciphers.{reads_of}
use Rattle.layout.specs.Stages.{width_of, source_of, standing_number}
use Rattle.layout.specs.declared.stage.Stage.{Stage}
use Rattle.layout.specs.declared.stage.Stage.TheVariants.{Entry, First, Second, Exit, Beyond}
use Rattle.whitebox.specs.Bundles.{codings_of}
use Rattle.whitebox.specs.Codings.{Codings}
use Rattle.whitebox.specs.Parts.{Parts, parts_for}
use Rattle.whitebox.specs.Words.{entry_word, mixed_word, second_word_of, placed_word, substituted}
use Rattle.layers.specs.Layers.{basis_of}

-- The byte x that position p reads, decoded "by the two lists of its place": of nr rounds, where `reads` is the byte that a position reads
-- through the row shift.
unfoldable pub read_byte : ℕ → (ℕ → ℕ) → List ℕ → Stage → ℕ → ℕ → ℕ
read_byte nr reads l s p x =
    let j = source_of reads s p in
    pack (decode (encoding_of nr l (standing_number nr s (2 * j))) (x / 16)) (decode (encoding_of nr l (standing_number nr s (2 * j + 1))) (x % 16))

module _ (P : Parts) (C : Codings) where
  -- The byte that a word is linear in: behind the S-box in first halves and in the exit, else the byte read.
  abbrev pub acted : ℕ → Stage → ℕ → ℕ → ℕ
  acted nr Entry p x = x
  acted nr (First r) p x = substituted P C r p x
  acted nr (Second r) p x = x
  acted nr Exit p x = substituted P C nr p x
  acted nr Beyond p x = x

  -- The word of that byte, and its number.
  abbrev pub linear_word : Stage → ℕ → ℕ → List ℕ
  linear_word Entry p y = entry_word P C p y
  linear_word (First r) p y = mixed_word P C r p y
  linear_word (Second r) p y = second_word_of P C r p y
  linear_word Exit p y = placed_word P C p y
  linear_word Beyond p y = []

  unfoldable pub word_number : Stage → ℕ → ℕ → ℕ
  word_number s p y = number_of (width_of s) (linear_word s p y)

-- For the cipher c of nr rounds, from the round keys w and the bundle l: the byte that the word is linear in for each byte that position p reads, and
-- the basis of the words.
abbrev pub acted_bytes : ℕ → ℕ → List ℕ → List ℕ → Stage → ℕ → List ℕ
acted_bytes c nr w l s p = tabulate 256 (λ x. acted (parts_for c nr w) (codings_of nr l) nr s p (read_byte nr (reads_of c) l s p x))

abbrev pub word_basis : ℕ → ℕ → List ℕ → List ℕ → Stage → ℕ → List ℕ → List ℕ
word_basis c nr w l s p old = basis_of (word_number (parts_for c nr w) (codings_of nr l) s p) old
