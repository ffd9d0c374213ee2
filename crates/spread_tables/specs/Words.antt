-- One word of a table, written straight to its place in the lent part (document 02, Ticket 6). Definitions and statements; they are proved in
-- proofs/laws/Words.antt.
use Rattle.std.specs.Prelude.{List, ◌⊎◌, ◌≡◌, ℕ, ◌+◌, ◌*◌, ◌≤◌, ◌<◌, length}
use Rattle.std.proofs.Math.Seq.{paste}
use Rattle.bits.specs.Lists.{at}
use Rattle.encodings.specs.Encodings.{Nibbles}

-- The bytes of a word in the entry and in the exit, and in a round.
abbrev pub block_word : ℕ
block_word = 16

abbrev pub round_word : ℕ
round_word = 4

-- One of the two.
abbrev pub WordWidth : ℕ → Type 0
WordWidth m = (m ≡ block_word) ⊎ (m ≡ round_word)

-- The part d with the bytes of w as its word x, in words of m bytes: in front of them and behind them it is as it was.
abbrev pub with_word : ℕ → ℕ → List ℕ → List ℕ → List ℕ
with_word m x w d = paste d (x * m) w m

-- The part d has become e, which has the bytes of w as its word x: the word's own bytes are those of w, every other byte is as it was, and e is as
-- long as d.
pub record WordPut (m x : ℕ) (w d e : List ℕ) : Type 0 where
  pub own : (k : ℕ) → k < m → at e (x * m + k) ≡ at w k
  pub others : (i : ℕ) → (i < x * m) ⊎ (x * m + m ≤ i) → at e i ≡ at d i
  pub long : length e ≡ length d

-- What the word's writer asks of `write_words`, which calls it for each word: a width, the images of each nibble of a
-- word, and room for word x.
pub record ForWord (m x : ℕ) (images dst : List ℕ) : Type 0 where
  pub width : m ≤ block_word
  pub encoded : Nibbles (32 * m) images
  pub word : x < 256
  pub room : x * m + m ≤ length dst

-- What `write_words` asks of `write`, which calls it with one of the two widths: 256 values, the words of the 32 bytes
-- with one nibble, the images of each nibble of a word, and a part of 256 words.
pub record ForWords (m : ℕ) (values words images dst : List ℕ) : Type 0 where
  pub valued : length values ≡ 256
  pub rows : 64 ≤ length words
  pub width : m ≤ block_word
  pub encoded : Nibbles (32 * m) images
  pub room : length dst ≡ 256 * m

-- What `write` asks of stages, which fills these lists before: 256 values, eight words as rows, one of the two widths,
-- the images of each nibble of a word, and a part of 256 words.
pub record ForTable (m : ℕ) (values basis images dst : List ℕ) : Type 0 where
  pub valued : length values ≡ 256
  pub rows : 16 ≤ length basis
  pub width : WordWidth m
  pub encoded : Nibbles (32 * m) images
  pub room : length dst ≡ 256 * m

-- "Writing one word leaves every other byte of the part as it was."
abbrev pub PutsWord : Type 0
PutsWord = (m x : ℕ) (w d : List ℕ) → length w ≡ m → x * m + m ≤ length d → WordPut m x w d (with_word m x w d)
