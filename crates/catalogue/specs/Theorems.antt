-- What the catalogue is, and what the call at a position gives, for a reader: the statements. They are proved in proofs/laws/Proved.antt.
use Rattle.std.specs.Prelude.{List, [], ◌∷◌, ◌≡◌, ℕ, ◌+◌, ◌*◌, ◌^◌, ◌<◌, ◌≤◌, length, Ok, Err}
use Rattle.answers.specs.Answers.{accepted, refused, reply_of}
use Rattle.answers.specs.declared.Refusal.{Refusal}
use Rattle.answers.specs.declared.Refusal.TheVariants.{CataloguePosition}
use Rattle.bits.specs.Lists.{at, Listed, Rising}
use Rattle.bits.specs.Vectors.{bit}
use Rattle.matrices.specs.Matrices.{Square, Invertible}
use Rattle.inversion.specs.Inverses.{UndoesBothWays}
use Rattle.catalogue.specs.Catalogue.{number_of_rows, rows_of_number, catalogue_of, side, catalogue, catalogue_entry, entry_answer}

module _ (n : ℕ) where
  -- ---- numbers and matrices, n by n
  -- Numbers of n * n bits and matrices correspond one to one, and bit j of row i is bit n * i + j of the number, from the top: by rows, not by columns.
  pub record Numbered : Type 0 where
    pub number_fits : (m : List ℕ) → Square n m → number_of_rows n m < 2 ^ (n * n)
    pub rows_fit : (v : ℕ) → Square n (rows_of_number n v)
    pub there : (v : ℕ) → v < 2 ^ (n * n) → number_of_rows n (rows_of_number n v) ≡ v
    pub back : (m : List ℕ) → Square n m → rows_of_number n (number_of_rows n m) ≡ m
    pub by_rows : (v i j : ℕ) → i < n → j < n → bit n j (at (rows_of_number n v) i) ≡ bit (n * n) (n * i + j) v

  -- ---- the list
  -- Each number in it has n * n bits, and its matrix has an inverse: a matrix that undoes it from both sides.
  pub record Member (v : ℕ) : Type 0 where
    pub fits : v < 2 ^ (n * n)
    pub inverse : List ℕ
    pub undoes : UndoesBothWays n (rows_of_number n v) inverse

  abbrev pub Sound : Type 0
  Sound = (p : ℕ) → p < length (catalogue_of n) → Member (at (catalogue_of n) p)

  -- Every matrix whose product some map undoes, whatever map it is, stands in it, under the number that its rows make.
  abbrev pub Complete : Type 0
  Complete = (m : List ℕ) → Square n m → Invertible n m → Listed (catalogue_of n) (number_of_rows n m)

-- ---- the call at a position, by its contract's definition
pub record EntriesGiven : Type 0 where
  -- "The 16-bit number made by their rows, row 0 highest."
  pub sixteen_bits : (a b c d : ℕ) → number_of_rows side (a ∷ b ∷ c ∷ d ∷ []) ≡ 4096 * a + 256 * b + 16 * c + d
  -- "There are 20,160."
  pub long : length catalogue ≡ 20160
  -- "A call gives the one at a position from 0."
  pub given : (p : ℕ) → p < 20160 → catalogue_entry p ≡ Ok (at catalogue p)
  -- "A position of 20,160 or more gets number 14", with which 0 is returned: "the only cause in that call".
  pub beyond : (p : ℕ) → 20160 ≤ p → reply_of (entry_answer (catalogue_entry p)) ≡ refused 14 0
  pub within : (p : ℕ) → p < 20160 → reply_of (entry_answer (catalogue_entry p)) ≡ accepted
  pub only_cause : (p : ℕ) (why : Refusal) → catalogue_entry p ≡ Err why → (why ≡ CataloguePosition) × (20160 ≤ p)
  -- What is given is a matrix with an inverse; each such is given, at one position alone; and the numbers rise with the position.
  pub sound : (p v : ℕ) → catalogue_entry p ≡ Ok v → Member side v
  pub complete : (m : List ℕ) → Square side m → Invertible side m → (p : ℕ) × (catalogue_entry p ≡ Ok (number_of_rows side m))
  pub once : (p q v : ℕ) → catalogue_entry p ≡ Ok v → catalogue_entry q ≡ Ok v → p ≡ q
  pub rising : (p q v w : ℕ) → p < q → catalogue_entry p ≡ Ok v → catalogue_entry q ≡ Ok w → v < w

-- ---- all of it
pub record Catalogued : Type 0 where
  pub numbered : (n : ℕ) → Numbered n
  pub sound : (n : ℕ) → Sound n
  pub complete : (n : ℕ) → Complete n
  -- The numbers rise, so each is there once.
  pub rising : (n : ℕ) → Rising (catalogue_of n)
  pub calls : EntriesGiven
