-- What the blocks of a matrix are, when the test of them fails, and when a matrix is block invertible, for a reader: the statements. They are proved in
-- proofs/laws/Proved.antt.
use Rattle.std.specs.Prelude.{true, false, List, ◌⊎◌, ◌≡◌, ℕ, ◌+◌, ◌*◌, ◌<◌}
use Rattle.bits.specs.Lists.{at}
use Rattle.bits.specs.Vectors.{bit}
use Rattle.matrices.specs.Matrices.{Square, Invertible}
use Rattle.catalogue.specs.Catalogue.{side}
use Rattle.blocks.specs.Blocks.{block, of_blocks, some_block_bad}

-- "Each aligned 4 by 4 block": bit c of row r of block i, j is bit 4 j + c of row 4 i + r of the matrix, whose rows have 4 q bits; and a block is four rows of four
-- bits.
pub record Aligned (q : ℕ) (m : List ℕ) (i j : ℕ) : Type 0 where
  pub square : Square side (block q m i j)
  pub bits : (r c : ℕ) → r < side → c < side → bit side c (at (block q m i j) r) ≡ bit (side * q) (side * j + c) (at m (side * i + r))

abbrev pub BlocksAligned : Type 0
BlocksAligned = (q : ℕ) (m : List ℕ) (i j : ℕ) → j < q → Aligned q m i j

-- A matrix that is built of blocks has these blocks, in 4 q rows of 4 q bits.
pub record HasBlocks (q : ℕ) (f : ℕ → ℕ → List ℕ) : Type 0 where
  pub square : Square (side * q) (of_blocks q f)
  pub blocks : (i j : ℕ) → i < q → j < q → block q (of_blocks q f) i j ≡ f i j

abbrev pub BlocksBuilt : Type 0
BlocksBuilt = (q : ℕ) (f : ℕ → ℕ → List ℕ) → ((i j : ℕ) → i < q → j < q → Square side (f i j)) → HasBlocks q f

-- Each block has an inverse: some map, whatever it is, undoes its product. Or one has none.
abbrev pub EachBlockInvertible : ℕ → List ℕ → Type 0
EachBlockInvertible q m = (i j : ℕ) → i < q → j < q → Invertible side (block q m i j)

pub record SingularBlock (q : ℕ) (m : List ℕ) : Type 0 where
  pub i : ℕ
  pub j : ℕ
  pub row : i < q
  pub column : j < q
  pub singular : Invertible side (block q m i j) → ⊥

-- The test passes exactly in the one case, and fails exactly in the other.
pub record TestTells (q : ℕ) (m : List ℕ) : Type 0 where
  pub passes : (some_block_bad q m ≡ false → EachBlockInvertible q m) × (EachBlockInvertible q m → some_block_bad q m ≡ false)
  pub fails : (some_block_bad q m ≡ true → SingularBlock q m) × (SingularBlock q m → some_block_bad q m ≡ true)

abbrev pub TestExact : Type 0
TestExact = (q : ℕ) (m : List ℕ) → TestTells q m

-- ---- Ticket 5's rule, for a matrix of 4 q rows
-- It is what source document 004 calls block invertible: some map undoes the product by the matrix, and each of its q by q blocks has an inverse. Else it is unfit:
-- "it or one of these blocks has no inverse".
pub record BlockInvertible (q : ℕ) (m : List ℕ) : Type 0 where
  pub whole : Invertible (side * q) m
  pub blocks : EachBlockInvertible q m

abbrev pub Unfit : ℕ → List ℕ → Type 0
Unfit q m = (Invertible (side * q) m → ⊥) ⊎ SingularBlock q m
