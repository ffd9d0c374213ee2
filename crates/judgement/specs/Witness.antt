-- That bundles are accepted, so that what is stated for every accepted bundle is stated of something: the statements. They are proved in
-- proofs/laws/Witness.antt.
use Rattle.std.specs.Prelude.{cond, List, [], ◌∷◌, ◌≡◌, ℕ, ◌≤◌, eqb}
use Rattle.answers.specs.Search.{All}
use Rattle.bits.specs.Encodings.{Permutation}
use Rattle.matrices.specs.Matrices.{identity, Invertible}
use Rattle.catalogue.specs.Catalogue.{side}
use Rattle.blocks.specs.Blocks.{of_blocks}
use Rattle.blocks.specs.Theorems.{BlockInvertible}
use Rattle.bundle.specs.Format.{encodings, byte_matrices, column_matrices, shortest, longest}
use Rattle.bundle.specs.Built.{Writable, bundle_of, plain_but}
use Rattle.judgement.specs.Judge.{judge}
use Rattle.answers.specs.Answer.{Accepted}

-- What a bundle may be built from: the encodings E 0, E 1, .. are permutations, the byte matrices B 0, .. and the column matrices C 0, .. are block
-- invertible, and the input matrix I and the output matrix O have inverses.
pub record Buildable (nr : ℕ) (E B C : ℕ → List ℕ) (I O : List ℕ) : Type 0 where
  pub writable : Writable nr E B C I O
  pub lists : All (encodings nr) (λ n. Permutation (E n))
  pub bytes : All (byte_matrices nr) (λ n. BlockInvertible 2 (B n))
  pub columns : All (column_matrices nr) (λ n. BlockInvertible 8 (C n))
  pub input : Invertible 128 I
  pub output : Invertible 128 O

-- The bundle built from them is accepted.
abbrev pub BuiltAccepted : Type 0
BuiltAccepted =
    (nr : ℕ) (E B C : ℕ → List ℕ) (I O : List ℕ) → shortest nr ≤ longest nr → Buildable nr E B C I O → judge nr (bundle_of nr E B C I O) ≡ Accepted

-- There are such matrices, built from blocks: q by q of them, on the diagonal the one with the rows 0100, 1100, 0001 and 0011, and elsewhere the identity. It has an
-- inverse, as a block must, and so has its sum with the identity, which is why the whole has one.
abbrev pub diagonal_block : List ℕ
diagonal_block = 4 ∷ 12 ∷ 1 ∷ 3 ∷ []

abbrev pub mixing_block : ℕ → ℕ → List ℕ
mixing_block i j = cond (eqb i j) diagonal_block (identity side)

unfoldable pub mixing_matrix : ℕ → List ℕ
mixing_matrix q = of_blocks q mixing_block

abbrev pub MixingMatrices : Type 0
MixingMatrices = BlockInvertible 2 (mixing_matrix 2) × BlockInvertible 8 (mixing_matrix 8)

-- The bundle that is plain but for these matrices is accepted, for every number of rounds for which the shortest bundle is not too long; so for ten.
unfoldable pub mixing_bundle : ℕ → List ℕ
mixing_bundle nr = plain_but nr (λ n. mixing_matrix 2) (λ n. mixing_matrix 8)

abbrev pub MixingAccepted : Type 0
MixingAccepted = (nr : ℕ) → shortest nr ≤ longest nr → judge nr (mixing_bundle nr) ≡ Accepted

abbrev pub TenAccepted : Type 0
TenAccepted = judge 10 (mixing_bundle 10) ≡ Accepted
