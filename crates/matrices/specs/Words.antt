-- What the words of a matrix are good for, for a reader: the statements. They are proved in proofs/laws/Words.antt.
use Rattle.std.specs.Prelude.{List, ◌++◌, ◌≡◌, ℕ, ◌*◌, ◌≤◌, length, take, drop}
use Rattle.bits.specs.Lists.{at}
use Rattle.matrices.specs.Rows.{rows_of, stored, words_of}

-- A matrix that is stored as rows leaves its words in the front of what was there, and the rest as it was.
abbrev pub StoredAsWords : Type 0
StoredAsWords = (n : ℕ) (m d : List ℕ) → 2 * n ≤ length d → stored n (at m) d ≡ words_of n m ++ drop (2 * n) d

-- The rows of words that begin with those of a matrix are the matrix.
abbrev pub ReadFromWords : Type 0
ReadFromWords = (n : ℕ) (m d : List ℕ) → take (2 * n) d ≡ words_of n m → length m ≡ n → rows_of n d ≡ m
