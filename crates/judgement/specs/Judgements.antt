-- What the judgement means, and the parts under it, for a reader: the statements. They are proved in proofs/laws/.
use Rattle.std.specs.Prelude.{true, false, List, [], ◌≡◌, ℕ, ◌+◌, ◌*◌, ◌≤◌, ◌<◌, length, take, drop}
use Rattle.bits.specs.Bytes.{Bytes}
use Rattle.bits.specs.Encodings.{Permutation}
use Rattle.matrices.specs.Matrices.{Invertible, matrix_of}
use Rattle.blocks.specs.Theorems.{BlockInvertible, Unfit}
use Rattle.bundle.specs.Format.{encodings, byte_matrices, column_matrices, part_count, part_size, offset, PairRight}
use Rattle.bundle.specs.Format.{part_at, encoding_of, byte_matrix, column_matrix, input_matrix, output_matrix}
use Rattle.bundle.specs.Frames.{LengthRight, Framed}
use Rattle.bundle.specs.FreeBytes.{SameButFree}
use Rattle.answers.specs.Search.{All, FirstBad}
use Rattle.answers.specs.Numbers.{cause_of}
use Rattle.answers.specs.declared.Refusal.{Refusal}
use Rattle.answers.specs.declared.Refusal.TheVariants.{KeyLength, BundleLength, Pair, Encoding, ByteMatrix, ColumnMatrix, InputMatrix}
use Rattle.answers.specs.declared.Refusal.TheVariants.{OutputMatrix, TableNumber, SetLength, BlockLength, Stop, Unfinished, RecordLength, CataloguePosition}
use Rattle.judgement.specs.Judge.{mixing_bad, judge}
use Rattle.answers.specs.Answer.{Answer, Accepted, Refused}

-- ---- byte and column matrices, each by itself
-- Document 02, Ticket 5: "such a matrix is refused exactly if it or one of these blocks has no inverse". The bytes p write a matrix of 8 w rows and so of 2 w by 2 w
-- blocks: w is 1 for a byte matrix and 4 for a column matrix. Its test refuses it exactly if it is unfit, and passes it exactly if it is block invertible.
pub record MixingTells (w : ℕ) (p : List ℕ) : Type 0 where
  pub refuses : (mixing_bad w p ≡ true → Unfit (2 * w) (matrix_of w p)) × (Unfit (2 * w) (matrix_of w p) → mixing_bad w p ≡ true)
  pub passes : (mixing_bad w p ≡ false → BlockInvertible (2 * w) (matrix_of w p)) × (BlockInvertible (2 * w) (matrix_of w p) → mixing_bad w p ≡ false)

abbrev pub MixingExact : Type 0
MixingExact = (w : ℕ) (p : List ℕ) → Bytes p → MixingTells w p

-- ---- what each cause asks of a bundle; for causes 2 and 3 see Frames.antt of crate bundle
-- Cause 4: list n is a permutation. Causes 5 and 6, of the mixing bijections (document 02, Ticket 5): byte matrix n, of 2 by 2 blocks, and column matrix n, of 8 by 8,
-- are block invertible. Cause 7: some map undoes the product by the matrix.
abbrev pub GoodEncoding : ℕ → List ℕ → ℕ → Type 0
GoodEncoding nr l n = Permutation (encoding_of nr l n)

abbrev pub GoodByteMatrix : ℕ → List ℕ → ℕ → Type 0
GoodByteMatrix nr l n = BlockInvertible 2 (byte_matrix nr l n)

abbrev pub GoodColumnMatrix : ℕ → List ℕ → ℕ → Type 0
GoodColumnMatrix nr l n = BlockInvertible 8 (column_matrix nr l n)

abbrev pub GoodInputMatrix : ℕ → List ℕ → Type 0
GoodInputMatrix nr l = Invertible 128 (input_matrix nr l)

abbrev pub GoodOutputMatrix : ℕ → List ℕ → Type 0
GoodOutputMatrix nr l = Invertible 128 (output_matrix nr l)

abbrev pub GoodEncodings : ℕ → List ℕ → Type 0
GoodEncodings nr l = All (encodings nr) (GoodEncoding nr l)

abbrev pub GoodByteMatrices : ℕ → List ℕ → Type 0
GoodByteMatrices nr l = All (byte_matrices nr) (GoodByteMatrix nr l)

abbrev pub GoodColumnMatrices : ℕ → List ℕ → Type 0
GoodColumnMatrices nr l = All (column_matrices nr) (GoodColumnMatrix nr l)

-- Of the matrices m 0, m 1, .., each of q by q blocks, n is the first that is unfit: "it or one of these blocks has no inverse", "still with the first such number".
pub record FirstUnfit (count q : ℕ) (m : ℕ → List ℕ) (n : ℕ) : Type 0 where
  pub below : n < count
  pub before : All n (λ i. BlockInvertible q (m i))
  pub here : Unfit q (m n)

-- ---- why a judgement is given
-- Accepted: no cause applies.
pub record Sound (nr : ℕ) (l : List ℕ) : Type 0 where
  pub framed : Framed nr l
  pub lists : GoodEncodings nr l
  pub bytes : GoodByteMatrices nr l
  pub columns : GoodColumnMatrices nr l
  pub input : GoodInputMatrix nr l
  pub output : GoodOutputMatrix nr l

-- Refused: no lower cause applies, and this is the first offender of its kind.
abbrev pub Why : ℕ → List ℕ → Answer → Type 0
Why nr l Accepted = Sound nr l
Why nr l (Refused BundleLength) = LengthRight nr l → ⊥
Why nr l (Refused (Pair i)) = LengthRight nr l × FirstBad 5 (PairRight nr l) i
Why nr l (Refused (Encoding n)) = Framed nr l × FirstBad (encodings nr) (GoodEncoding nr l) n
Why nr l (Refused (ByteMatrix n)) = Framed nr l × GoodEncodings nr l × FirstUnfit (byte_matrices nr) 2 (byte_matrix nr l) n
Why nr l (Refused (ColumnMatrix n)) =
    Framed nr l × GoodEncodings nr l × GoodByteMatrices nr l × FirstUnfit (column_matrices nr) 8 (column_matrix nr l) n
Why nr l (Refused InputMatrix) =
    Framed nr l × GoodEncodings nr l × GoodByteMatrices nr l × GoodColumnMatrices nr l × (GoodInputMatrix nr l → ⊥)
Why nr l (Refused OutputMatrix) =
    Framed nr l × GoodEncodings nr l × GoodByteMatrices nr l × GoodColumnMatrices nr l × GoodInputMatrix nr l × (GoodOutputMatrix nr l → ⊥)
-- No other cause is a bundle's.
Why nr l (Refused KeyLength) = ⊥
Why nr l (Refused TableNumber) = ⊥
Why nr l (Refused SetLength) = ⊥
Why nr l (Refused BlockLength) = ⊥
Why nr l (Refused Stop) = ⊥
Why nr l (Refused Unfinished) = ⊥
Why nr l (Refused RecordLength) = ⊥
Why nr l (Refused CataloguePosition) = ⊥

-- ---- the theorems: between them they say of every bundle which judgement is given, and why
-- A bundle of bytes is accepted exactly if it is sound.
abbrev pub AcceptedExactly : Type 0
AcceptedExactly = (nr : ℕ) (l : List ℕ) → Bytes l → (judge nr l ≡ Accepted → Sound nr l) × (Sound nr l → judge nr l ≡ Accepted)

-- It is refused exactly for the refusal's reason. So, with no lower cause and no such matrix before it, a byte or column "matrix is refused exactly if it or one of
-- these blocks has no inverse".
abbrev pub RefusedExactly : Type 0
RefusedExactly =
    (nr : ℕ) (l : List ℕ) → Bytes l → (r : Refusal)
    → (judge nr l ≡ Refused r → Why nr l (Refused r)) × (Why nr l (Refused r) → judge nr l ≡ Refused r)

-- ---- parts
-- Part n of section s lies in the bundle: "handed back as that part, not copied; it is empty for a list number above 6,047 or a bundle
-- with cause 2 or 3, and matrices follow the same rule".
pub record PartRule (nr : ℕ) (l : List ℕ) (s n : ℕ) : Type 0 where
  pub here : Framed nr l → n < part_count nr s → part_at nr l s n ≡ take (part_size s) (drop (offset l s + n * part_size s) l)
  pub long : Framed nr l → n < part_count nr s → length (part_at nr l s n) ≡ part_size s
  pub behind : part_count nr s ≤ n → part_at nr l s n ≡ []
  pub refused : (r : Refusal) → judge nr l ≡ Refused r → cause_of r ≤ 3 → part_at nr l s n ≡ []

abbrev pub Parts : Type 0
Parts = (nr : ℕ) (l : List ℕ) (s n : ℕ) → s < 5 → PartRule nr l s n

-- ---- free bytes
-- "Bytes between sections are free and not read": bundles that differ in them alone are judged alike, with the same first offender.
abbrev pub FreeBytes : Type 0
FreeBytes = (nr : ℕ) (l l' : List ℕ) → SameButFree nr l l' → judge nr l ≡ judge nr l'
