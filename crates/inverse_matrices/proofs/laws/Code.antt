-- Laws, not definitions: the parts of an accepted bundle for nr rounds, as the code reads them.
-- Assumes nothing.
use mathlib.Core.List.{List}
use mathlib.Core.Path.{◌≡◌, ap, ◌∙◌}
use Prim.Native.Nat.{ℕ, ◌<◌}
use native.Mathlib.Omega.{arith}
use borrow.Author.Tests.{lt-ltb}
use lib.ListN.{length}
use Rattle.answers.proofs.laws.Tests.{both}
use Rattle.bundle.specs.Format.{byte_matrices, column_matrices, part_count, part_size, frame}
use Rattle.bundle.specs.Format.{byte_matrix_part, column_matrix_part, input_matrix_part, output_matrix_part, byte_matrix, column_matrix}
use Rattle.bundle.proofs.laws.Parts.{part_long}
use Rattle.judgement.specs.Judge.{judge}
use Rattle.whitebox.specs.Bundles.{codings_of}
use Rattle.answers.specs.Answer.{Accepted}

-- ---- parts of an accepted bundle
pub frame_of : (nr : ℕ) (l : List ℕ) → judge nr l ≡ Accepted → frame nr l ≡ Accepted
unfolding judge
frame_of nr l e = (both _ _ e).first

module _ (nr : ℕ) (l p : List ℕ) (f : frame nr l ≡ Accepted) where
  pub byte_part_long : (n : ℕ) → n < byte_matrices nr → p ≡ byte_matrix_part nr l n → length p ≡ 8
  unfolding part_count part_size
  byte_part_long n h e = ap length e ∙ part_long nr l 1 n (omega arith) f h

  pub column_part_long : (n : ℕ) → n < column_matrices nr → p ≡ column_matrix_part nr l n → length p ≡ 128
  unfolding part_count part_size
  column_part_long n h e = ap length e ∙ part_long nr l 2 n (omega arith) f h

  pub input_part_long : p ≡ input_matrix_part nr l → length p ≡ 2048
  unfolding part_count part_size
  input_part_long e = ap length e ∙ part_long nr l 3 0 (omega arith) f (omega arith)

  pub output_part_long : p ≡ output_matrix_part nr l → length p ≡ 2048
  unfolding part_count part_size
  output_part_long e = ap length e ∙ part_long nr l 4 0 (omega arith) f (omega arith)

pub byte_is : (nr : ℕ) (l : List ℕ) (n : ℕ) → n < byte_matrices nr → (codings_of nr l).byte_matrix n ≡ byte_matrix nr l n
unfolding codings_of
byte_is nr l n h = rw (lt-ltb n (byte_matrices nr) h)

pub column_is : (nr : ℕ) (l : List ℕ) (n : ℕ) → n < column_matrices nr → (codings_of nr l).column_matrix n ≡ column_matrix nr l n
unfolding codings_of
column_is nr l n h = rw (lt-ltb n (column_matrices nr) h)
