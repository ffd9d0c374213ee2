-- Lookups as the code makes them, one by one: the standing bytes and the area change in place. Definitions only, for this crate's functions.
use Rattle.std.specs.Prelude.{cond, List, ◌⊎◌, ◌≡◌, ℕ, suc, ◌+◌, ◌*◌, ◌/◌, ◌%◌, ◌≤◌, ◌<◌, eqb, length, set, drop}
use Rattle.std.proofs.Math.Seq.{paste}
use Rattle.bits.specs.Lists.{at}
use Rattle.bits.specs.Nibbles.{pack, nibble, set_nibble}
use Rattle.network.specs.Lookups.{state_at, Shape, xor_index, xor_area, lookup_in}
use Rattle.network.specs.Order.{layer_lookups}
use Rattle.network.specs.Read.{read_in}
use Rattle.network.specs.Sizes.{size_of}
use Rattle.network.specs.Theorems.{WithinTable}
use Rattle.network.specs.declared.EntryPlace.{EntryPlace}
use Rattle.layout.specs.Stages.{width_of}
use Rattle.layout.specs.declared.stage.Stage.{Stage}

-- What the code asks of offsets in a set, so that no sum of them wraps; no set is as long.
abbrev pub offset_limit : ℕ
offset_limit = 4294967296

-- ---- what the functions ask
-- Words have that many bytes: 16 of entry and exit, 4 of a half.
abbrev pub Width : ℕ → Type 0
Width m = (m ≡ 4) ⊎ (m ≡ 16)

-- Spread lookup p is one of 16, of words of m bytes, and its table has a word for each byte.
pub record SpreadIn (m p long : ℕ) : Type 0 where
  pub width : m ≤ 16
  pub within : p < 16
  pub sized : long ≡ 256 * m

-- XOR lookup x is one of a stage or half of that width.
abbrev pub XorIn : ℕ → ℕ → Type 0
XorIn m x = ((m ≡ 16) × (x < 480)) ⊎ ((m ≡ 4) × (x < 96))

-- The tables t and u of two XOR lookups, those of the high and of the low nibble of a byte.
pub record XorTables (t u : List ℕ) : Type 0 where
  pub high : length t ≡ 128
  pub low : length u ≡ 128

-- Lookup j is one of the stage or half, and its table, which begins at byte `from` of the set, has the given length.
pub record Fits (s : Stage) (j from long : ℕ) : Type 0 where
  pub within : j < layer_lookups (width_of s)
  pub sized : long ≡ size_of (width_of s) j
  pub short : from ≤ offset_limit

-- ---- what they leave
-- The byte x with the half replaced that is nibble q of a list.
abbrev pub with_half : ℕ → ℕ → ℕ → ℕ
with_half x q v = cond (eqb (q % 2) 0) (pack v (x % 16)) (pack (x / 16) v)

-- A spread lookup over the table t, of words of m bytes, reads the word of the byte x, which begins at byte r of the table, and turns the area a into a'.
pub record SpreadRead (t : List ℕ) (m p x : ℕ) (a : List ℕ) (r : ℕ) (a' : List ℕ) : Type 0 where
  pub word : r ≡ x * m
  pub ends : r + m ≤ 256 * m
  pub area : a' ≡ paste a (p * m) (drop (x * m) t) m

-- An XOR lookup over the table t at two nibbles of an area a reads entry e and leaves the area a'.
pub record XorRead (t : List ℕ) (sum added : ℕ) (a : List ℕ) (e : ℕ) (a' : List ℕ) : Type 0 where
  pub entry : e ≡ pack (nibble a sum) (nibble a added)
  pub below : e < 256
  pub area : a' ≡ set_nibble a sum (nibble t e)

-- The area whose byte `sum` has both nibbles replaced, each by the entry that it and the nibble of byte `added` pick.
unfoldable pub xor_byte : List ℕ → List ℕ → ℕ → ℕ → List ℕ → List ℕ
xor_byte high low sum added a =
    set a sum (pack (nibble high (pack (at a sum / 16) (at a added / 16))) (nibble low (pack (at a sum % 16) (at a added % 16))))

-- Two XOR lookups in a row, over the tables `high` and `low`, at the nibbles of two bytes of an area a: the second reads entry e, and they leave a'.
pub record PairRead (high low : List ℕ) (sum added : ℕ) (a : List ℕ) (e : ℕ) (a' : List ℕ) : Type 0 where
  pub entry : e ≡ pack (at a sum % 16) (at a added % 16)
  pub below : e < 256
  pub area : a' ≡ xor_byte high low sum added a

-- XOR lookup x of a stage or half of width m, over the table t, reads entry e and turns the area a into a'.
pub record XorMade (m x : ℕ) (t a : List ℕ) (e : ℕ) (a' : List ℕ) : Type 0 where
  pub entry : e ≡ xor_index m x a
  pub below : e < 256
  pub area : a' ≡ xor_area m x t a

-- Lookup j over the table t, which begins at byte `from` of the set, reads the place r and turns standing bytes s and area a into s' and a', at any
-- count.
pub record LookedUp (S : Shape) (j : ℕ) (t : List ℕ) (from : ℕ) (s a : List ℕ) (r : EntryPlace) (s' a' : List ℕ) : Type 0 where
  pub read : r ≡ read_in S j from s a
  pub table : WithinTable S.width j from r
  pub walk : (n : ℕ) → lookup_in S j t (state_at n s a) ≡ state_at (suc n) s' a'
