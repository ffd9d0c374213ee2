-- The encodings by number, from the bundle's section that has them, and lists that replace nibbles. Definitions only.
use Rattle.std.specs.Prelude.{List, ℕ, ◌+◌, ◌*◌, ◌/◌, ◌%◌, ◌≤◌, ◌<◌, length}
use Rattle.bits.specs.Lists.{at, part_of}
use Rattle.bits.specs.Encodings.{images_of}
use Rattle.bits.specs.Nibbles.{pack}
use Rattle.bundle.specs.Format.{most_encodings}

-- Encoding n of the section s.
abbrev pub encoding_in : List ℕ → ℕ → List ℕ
encoding_in s n = images_of (part_of 8 s n)

-- The first n elements are there, and are nibbles.
pub record Nibbles (n : ℕ) (l : List ℕ) : Type 0 where
  pub long : n ≤ length l
  pub small : (i : ℕ) → i < n → at l i < 16

-- The byte x with its nibbles replaced: the high one by its element of `high`, the low one by that of `low`.
abbrev pub by_nibbles : List ℕ → List ℕ → ℕ → ℕ
by_nibbles high low x = pack (at high (x / 16)) (at low (x % 16))

-- What `all_images` asks of stages, which calls it for the encodings of a word: `count` encodings from number n on that
-- the section has, at most 32, and room for the images of each.
pub record ForImages (n count : ℕ) (section dst : List ℕ) : Type 0 where
  pub number : n ≤ most_encodings
  pub few : count ≤ 32
  pub stored : (n + count) * 8 ≤ length section
  pub room : 16 * count ≤ length dst
