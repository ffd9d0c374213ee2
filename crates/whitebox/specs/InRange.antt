-- Which codings the tables of a set use: the statement. It is proved in proofs/laws/InRange.antt.
use Rattle.std.specs.Prelude.{◌≡◌, ℕ, ◌≤◌, ◌<◌}
use Rattle.bundle.specs.Format.{encodings, byte_matrices, column_matrices}
use Rattle.whitebox.specs.Codings.{Codings}
use Rattle.whitebox.specs.Parts.{Parts, Fine}
use Rattle.whitebox.specs.Tables.{set_of}

-- Codings that agree on the numbers that a bundle for nr rounds has: 6,048 lists, 160 byte matrices, 36 column matrices for ten rounds.
pub record AgreeInRange (nr : ℕ) (C C' : Codings) : Type 0 where
  pub lists : (n : ℕ) → n < encodings nr → C.encoding n ≡ C'.encoding n
  pub bytes : (n : ℕ) → n < byte_matrices nr → C.byte_matrix n ≡ C'.byte_matrix n
  pub columns : (n : ℕ) → n < column_matrices nr → C.column_matrix n ≡ C'.column_matrix n
  pub input : C.input_matrix ≡ C'.input_matrix
  pub output : C.output_matrix ≡ C'.output_matrix

-- They give the same set: no table uses a number out of range.
abbrev pub OnlyInRange : Type 0
OnlyInRange = (P : Parts) → Fine P → (nr : ℕ) → 1 ≤ nr → (C C' : Codings) → AgreeInRange nr C C' → set_of P C nr ≡ set_of P C' nr
