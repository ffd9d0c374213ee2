-- Laws, not definitions: the statements of specs/FreeBytes.antt. All that is told or made of a bundle is of its frame and its parts.
-- Assumes nothing.
use mathlib.Core.Bool.{cond}
use mathlib.Core.List.{List}
use mathlib.Core.Path.{◌≡◌, ap, ap₂, fun_ext}
use Prim.Native.Nat.{ℕ}
use native.Mathlib.Omega.{arith}
use lib.Dec.{ltb}
use Rattle.bits.specs.Encodings.{images_of, plain_encoding}
use Rattle.matrices.specs.Matrices.{matrix_of, identity}
use Rattle.round.specs.Key.{rounds_of}
use Rattle.bundle.specs.Format.{encodings, byte_matrices, column_matrices, encoding_of, byte_matrix, column_matrix, input_matrix, output_matrix}
use Rattle.bundle.specs.FreeBytes.{SameParts}
use Rattle.bundle.proofs.laws.FreeBytes.{free_bytes}
use Rattle.judgement.proofs.laws.Judgements.{free_judged}
use Rattle.external.specs.Coding.{encode_by, decode_by, encode_input, decode_input, output_first, encode_output, decode_output}
use Rattle.whitebox.specs.Bundles.{codings_of, parts_of, made_set, made_table}
use Rattle.whitebox.specs.Codings.{Codings}
use Rattle.whitebox.specs.FreeBytes.{FreeBytes, FreeBytesFor, FreeBytes128}
use Rattle.whitebox.specs.Tables.{table_of, set_of}

module _ (nr : ℕ) (l l' : List ℕ) (S : SameParts nr l l') where
  -- ---- the encodings and matrices by number
  encoding_same : encoding_of nr l ≡ encoding_of nr l'
  encoding_same = fun_ext (λ n. ap images_of (S.parts 0 n (omega arith)))

  byte_same : (n : ℕ) → byte_matrix nr l n ≡ byte_matrix nr l' n
  byte_same n = ap (matrix_of 1) (S.parts 1 n (omega arith))

  column_same : (n : ℕ) → column_matrix nr l n ≡ column_matrix nr l' n
  column_same n = ap (matrix_of 4) (S.parts 2 n (omega arith))

  input_same : input_matrix nr l ≡ input_matrix nr l'
  input_same = ap (matrix_of 16) (S.parts 3 0 (omega arith))

  output_same : output_matrix nr l ≡ output_matrix nr l'
  output_same = ap (matrix_of 16) (S.parts 4 0 (omega arith))

  -- ---- what is worked out from them
  input_on : (x : List ℕ) → encode_input nr l x ≡ encode_input nr l' x
  unfolding encode_input
  input_on x = ap₂ (λ (E : ℕ → List ℕ) (m : List ℕ). encode_by E 0 m x) encoding_same input_same

  input_off : (x : List ℕ) → decode_input nr l x ≡ decode_input nr l' x
  unfolding decode_input
  input_off x = ap₂ (λ (E : ℕ → List ℕ) (m : List ℕ). decode_by E 0 m x) encoding_same input_same

  output_on : (x : List ℕ) → encode_output nr l x ≡ encode_output nr l' x
  unfolding encode_output
  output_on x = ap₂ (λ (E : ℕ → List ℕ) (m : List ℕ). encode_by E (output_first nr) m x) encoding_same output_same

  output_off : (x : List ℕ) → decode_output nr l x ≡ decode_output nr l' x
  unfolding decode_output
  output_off x = ap₂ (λ (E : ℕ → List ℕ) (m : List ℕ). decode_by E (output_first nr) m x) encoding_same output_same

  codings_same : codings_of nr l ≡ codings_of nr l'
  unfolding codings_of
  codings_same = λ i.
      record {
        encoding = λ n. cond (ltb n (encodings nr)) (encoding_same i n) plain_encoding;
        byte_matrix = λ n. cond (ltb n (byte_matrices nr)) (byte_same n i) (identity 8);
        column_matrix = λ n. cond (ltb n (column_matrices nr)) (column_same n i) (identity 32);
        input_matrix = input_same i;
        output_matrix = output_same i;
      }

pub free_bundle : FreeBytes
free_bundle nr l l' agree =
    let S : SameParts nr l l' = free_bytes nr l l' agree in
    record {
      frames = S.frames;
      judged = free_judged nr l l' agree;
      parts = S.parts;
      input_on = input_on nr l l' S;
      input_off = input_off nr l l' S;
      output_on = output_on nr l l' S;
      output_off = output_off nr l l' S;
      codings = codings_same nr l l' S;
    }

pub free_bytes_for : (nk : ℕ) → FreeBytesFor nk
unfolding made_set made_table
free_bytes_for nk l l' agree =
    let nr = rounds_of nk in
    let B = free_bundle nr l l' agree in
    record {
      bundle = B;
      set = λ c key. ap (λ (C : Codings). set_of (parts_of c nk key) C nr) B.codings;
      table = λ c key k. ap (λ (C : Codings). table_of (parts_of c nk key) C nr k) B.codings;
    }

pub free_bytes_128 : FreeBytes128
free_bytes_128 = free_bytes_for 4
