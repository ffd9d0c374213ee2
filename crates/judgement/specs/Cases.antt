-- Document 01's starred cases of the judgement, and document 02's of Ticket 5: the statements. They are proved in proofs/laws/Cases.antt.
use Rattle.std.specs.Prelude.{cond, ◌&&◌, List, ◌≢◌, ◌≡◌, ℕ, ◌-◌, ◌*◌, ◌≤◌, ◌<◌, eqb, replicate}
use Rattle.bits.specs.Bytes.{Bytes}
use Rattle.bits.specs.Encodings.{encode}
use Rattle.bits.specs.Lists.{at}
use Rattle.matrices.specs.Matrices.{Invertible}
use Rattle.catalogue.specs.Catalogue.{side}
use Rattle.blocks.specs.Blocks.{block, of_blocks}
use Rattle.blocks.specs.Theorems.{EachBlockInvertible}
use Rattle.bundle.specs.Built.{Plain, plain_bundle, plain_but}
use Rattle.bundle.specs.Format.{encoding_of, byte_matrix}
use Rattle.bundle.specs.Frames.{Framed}
use Rattle.answers.specs.Numbers.{cause_of, second_of}
use Rattle.answers.specs.declared.Refusal.{Refusal}
use Rattle.answers.specs.declared.Refusal.TheVariants.{ByteMatrix}
use Rattle.judgement.specs.Judge.{judge}
use Rattle.judgement.specs.Judgements.{GoodEncodings, GoodByteMatrix, GoodColumnMatrices, GoodInputMatrix, GoodOutputMatrix}
use Rattle.judgement.specs.Witness.{mixing_block, mixing_matrix}
use Rattle.answers.specs.Answer.{Refused}

-- A bundle is refused with document 01's two numbers.
pub record RefusedWith (l : List ℕ) (cause second : ℕ) : Type 0 where
  pub refusal : Refusal
  pub judged : judge 10 l ≡ Refused refusal
  pub number : cause_of refusal ≡ cause
  pub with : second_of refusal ≡ second

-- No cause below 4 applies: a refusal, if there is one, is not for it.
abbrev pub NoneBelow4 : List ℕ → Type 0
NoneBelow4 l = (r : Refusal) → judge 10 l ≡ Refused r → 4 ≤ cause_of r

-- "List 0 sends 0 and 1 to 0, no lower cause applies: refused, 4 with 0."
abbrev pub List0 : Type 0
List0 = (l : List ℕ) → Bytes l → NoneBelow4 l → encode (encoding_of 10 l 0) 0 ≡ 0 → encode (encoding_of 10 l 0) 1 ≡ 0 → RefusedWith l 4 0

-- "Two equal rows in byte matrix 159, the only fault: refused, 5 with 159."
pub record OnlyFault159 (l : List ℕ) : Type 0 where
  pub framed : Framed 10 l
  pub lists : GoodEncodings 10 l
  pub others : (n : ℕ) → n < 160 → n ≢ 159 → GoodByteMatrix 10 l n
  pub columns : GoodColumnMatrices 10 l
  pub input : GoodInputMatrix 10 l
  pub output : GoodOutputMatrix 10 l

abbrev pub Byte159 : Type 0
Byte159 = (l : List ℕ) → Bytes l → OnlyFault159 l → (a b : ℕ) → a < 8 → b < 8 → a ≢ b
    → at (byte_matrix 10 l 159) a ≡ at (byte_matrix 10 l 159) b → RefusedWith l 5 159

-- There is such a bundle, so the case speaks of something: rows 0 and 4 of its matrix are equal, and as no block has both, it is the whole that has no inverse.
pub record Faulty159 : Type 0 where
  pub bundle : List ℕ
  pub bytes : Bytes bundle
  pub only_fault : OnlyFault159 bundle
  pub equal_rows : at (byte_matrix 10 bundle 159) 0 ≡ at (byte_matrix 10 bundle 159) 4
  pub blocks : EachBlockInvertible 2 (byte_matrix 10 bundle 159)

-- ---- document 02, Ticket 5
-- "The plain bundle is refused from now on, with 5 and 0, after its lists pass": any bundle in a right frame whose lists and matrices change nothing, for
-- every number of rounds from 1 on; and document 01's ten, with its two numbers.
abbrev pub PlainJudged : Type 0
PlainJudged = (nr : ℕ) (l : List ℕ) → 1 ≤ nr → Bytes l → Framed nr l → Plain nr l → GoodEncodings nr l × (judge nr l ≡ Refused (ByteMatrix 0))

abbrev pub PlainRefused : Type 0
PlainRefused = RefusedWith (plain_bundle 10) 5 0

-- The last block counts: the mixing matrix of q by q blocks with its last block 0 has an inverse, and so has each other block. It is refused, here as the last of its
-- kind.
abbrev pub last_zero : ℕ → ℕ → ℕ → List ℕ
last_zero q i j = cond (eqb i (q - 1) && eqb j (q - 1)) (replicate side 0) (mixing_block i j)

unfoldable pub last_bad : ℕ → List ℕ
last_bad q = of_blocks q (last_zero q)

-- The byte or column matrix m at number n, mixing matrices elsewhere.
abbrev pub all_but : ℕ → List ℕ → ℕ → ℕ → List ℕ
all_but n m q k = cond (eqb k n) m (mixing_matrix q)

pub record BadAtLast (q : ℕ) : Type 0 where
  pub whole : Invertible (side * q) (last_bad q)
  pub others : (i j : ℕ) → i < q → j < q → (i ≡ q - 1 → j ≢ q - 1) → Invertible side (block q (last_bad q) i j)

pub record LastBlock : Type 0 where
  pub byte : BadAtLast 2
  pub column : BadAtLast 8
  pub byte_refused : RefusedWith (plain_but 10 (all_but 159 (last_bad 2) 2) (λ n. mixing_matrix 8)) 5 159
  pub column_refused : RefusedWith (plain_but 10 (λ n. mixing_matrix 2) (all_but 35 (last_bad 8) 8)) 6 35
