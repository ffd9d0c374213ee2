-- What causes 2 and 3 mean, for a reader: the statements. They are proved in proofs/laws/Frame.antt.
use Rattle.std.specs.Prelude.{List, ◌≡◌, ℕ, ◌+◌, ◌≤◌, ◌<◌, length}
use Rattle.bundle.specs.Format.{encodings, most_encodings, byte_matrices, column_matrices, section_length, shortest, longest, offset, PairRight}

-- ---- sizes: document 01's numbers are those for ten rounds. For 12 and 14 "bundles begin at 66,856 and 75,304 bytes" and "may reach 131,072"
-- (document 02, Ticket 14).
pub record Sizes : Type 0 where
  pub lists : encodings 10 ≡ 6048
  pub bytes : byte_matrices 10 ≡ 160
  pub columns : column_matrices 10 ≡ 36
  pub section_0 : section_length 10 0 ≡ 48384
  pub section_1 : section_length 10 1 ≡ 1280
  pub section_2 : section_length 10 2 ≡ 4608
  pub section_3 : section_length 10 3 ≡ 2048
  pub section_4 : section_length 10 4 ≡ 2048
  pub low : shortest 10 ≡ 58408
  pub high : longest 10 ≡ 65536
  pub low_12 : shortest 12 ≡ 66856
  pub low_14 : shortest 14 ≡ 75304
  pub high_12 : longest 12 ≡ 131072
  pub high_14 : longest 14 ≡ 131072
  pub most_lists : encodings 14 ≡ most_encodings

-- ---- what each cause asks
-- Cause 2: the length is in range.
pub record LengthRight (nr : ℕ) (l : List ℕ) : Type 0 where
  pub low : shortest nr ≤ length l
  pub high : length l ≤ longest nr

-- Causes 2 and 3: and every pair is right.
pub record Framed (nr : ℕ) (l : List ℕ) : Type 0 where
  pub range : LengthRight nr l
  pub pairs : (i : ℕ) → i < 5 → PairRight nr l i

-- ---- sections
-- Sections stand behind the pairs and in order: none overlaps another.
abbrev pub Apart : Type 0
Apart = (nr : ℕ) (l : List ℕ) → Framed nr l → (i : ℕ) → i < 5 → (40 ≤ offset l i) × ((j : ℕ) → j < i → offset l j + section_length nr j ≤ offset l i)
