-- Laws, not definitions: the codings of an accepted bundle are sound, and the bundle has as many encodings as the network uses.
-- Assumes nothing.
use mathlib.Core.Bool.{cond}
use mathlib.Core.List.{List}
use mathlib.Core.Path.{◌≡◌}
use Prim.Native.Nat.{ℕ, ◌≤◌, ◌<◌}
use native.Mathlib.Decide.{dec_lt}
use native.Mathlib.Omega.{arith}
use borrow.Author.Tests.{lt-ltb, le-ltb}
use lib.Dec.{ltb}
use Rattle.bits.specs.Bytes.{Bytes}
use Rattle.bits.specs.Encodings.{Permutation, plain_encoding}
use Rattle.bits.proofs.laws.Encodings.{plain_permutation}
use Rattle.matrices.specs.Matrices.{identity}
use Rattle.matrices.proofs.laws.Stored.{matrix_of_fits}
use Rattle.matrices.proofs.laws.Matrices.{identity_fits, identity_invertible}
use Rattle.bundle.specs.Format.{encodings, byte_matrices, column_matrices, encoding_of, byte_matrix, column_matrix}
use Rattle.bundle.specs.Format.{byte_matrix_part, column_matrix_part, input_matrix_part, output_matrix_part}
use Rattle.bundle.proofs.laws.Parts.{at_bytes}
use Rattle.judgement.specs.Judge.{judge}
use Rattle.judgement.proofs.laws.Judgements.{accepted_sound}
use Rattle.layout.specs.Stages as stages
use Rattle.layout.proofs.laws.Ranges.{by_stage}
use Rattle.whitebox.specs.Bundles.{codings_of}
use Rattle.whitebox.specs.Codings.{GoodMatrix, Sound}
use Rattle.answers.specs.Answer.{Accepted}

identity_good : (n : ℕ) → GoodMatrix n (identity n)
identity_good n = record { fits = identity_fits n; has = identity_invertible n }

-- In range the bundle's own, behind the last number one that changes nothing.
chosen : {A : Type 0} (Q : A → Type 0) (n m : ℕ) (a b : A) → (n < m → Q a) → Q b → Q (cond (ltb n m) a b)
chosen Q n m a b p q = elim (dec_lt n m) [
  | yes h ↦ rw (lt-ltb n m h) (p h)
  | no h ↦ rw (le-ltb n m (omega arith)) q
]

pub codings_sound : (nr : ℕ) (l : List ℕ) → Bytes l → judge nr l ≡ Accepted → Sound (codings_of nr l)
unfolding codings_of
codings_sound nr l bytes e =
    let S = accepted_sound nr l bytes e in
    record {
      encodings = λ n. chosen Permutation n (encodings nr) (encoding_of nr l n) plain_encoding (λ h. S.lists n h) plain_permutation;
      bytes = λ n.
          chosen (GoodMatrix 8) n (byte_matrices nr) (byte_matrix nr l n) (identity 8)
          (λ h. record { fits = matrix_of_fits 1 (byte_matrix_part nr l n) (at_bytes nr l 1 n bytes); has = (S.bytes n h).whole }) (identity_good 8);
      columns = λ n.
          chosen (GoodMatrix 32) n (column_matrices nr) (column_matrix nr l n) (identity 32)
          (λ h. record { fits = matrix_of_fits 4 (column_matrix_part nr l n) (at_bytes nr l 2 n bytes); has = (S.columns n h).whole }) (identity_good 32);
      input = record { fits = matrix_of_fits 16 (input_matrix_part nr l) (at_bytes nr l 3 0 bytes); has = S.input };
      output = record { fits = matrix_of_fits 16 (output_matrix_part nr l) (at_bytes nr l 4 0 bytes); has = S.output };
    }

-- The bundle's count of encodings is the network's.
pub encodings_agree : (nr : ℕ) → 1 ≤ nr → encodings nr ≡ stages.encodings nr
unfolding encodings
encodings_agree nr h = omega (arith, (by_stage nr).all_encodings)

-- In range an encoding is the bundle's.
pub encoding_is : (nr : ℕ) (l : List ℕ) (n : ℕ) → n < encodings nr → (codings_of nr l).encoding n ≡ encoding_of nr l n
unfolding codings_of
encoding_is nr l n h = rw (lt-ltb n (encodings nr) h)
