-- Laws, not definitions: uncoding undoes coding and coding undoes uncoding.
-- Assumes nothing.
use mathlib.Core.List.{List}
use mathlib.Core.Logic.{⊎_elim}
use mathlib.Core.Path.{◌≡◌, refl, sym, ap, ◌∙◌}
use Prim.Native.Nat.{ℕ, ◌+◌, ◌*◌, ◌/◌, ◌≤◌, ◌<◌}
use native.Mathlib.Omega.{arith}
use Rattle.bits.specs.Bytes.{Bytes, Block, number_of, bytes_of}
use Rattle.bits.specs.Encodings.{encode, decode, Permutation, plain_encoding}
use Rattle.bits.specs.Lists.{at}
use Rattle.bits.specs.Nibbles.{nibble, packed}
use Rattle.bits.proofs.laws.Bytes.{number_of_lt, bytes_of_block, number_of_bytes_of, bytes_of_number_of}
use Rattle.bits.proofs.laws.Encodings as single
use Rattle.bits.proofs.laws.Lists.{at_tabulate}
use Rattle.bits.proofs.laws.Nibbles.{length_packed, at_packed, packed_ext, packed_nibbles, packed_bytes, nibble_lt, parity}
use Rattle.matrices.specs.Matrices.{product, identity, Undoes}
use Rattle.matrices.proofs.laws.Stored.{matrix_of_fits}
use Rattle.matrices.proofs.laws.Matrices.{product_lt, product_identity}
use Rattle.inversion.specs.Elimination.{inverse_of}
use Rattle.inversion.specs.Inverses.{UndoesBothWays}
use Rattle.inversion.proofs.laws.Inverses.{inverse_undoes}
use Rattle.bundle.specs.Format.{encodings, encoding_of, input_matrix, output_matrix, input_matrix_part, output_matrix_part}
use Rattle.bundle.proofs.laws.Parts.{at_bytes}
use Rattle.judgement.specs.Judge.{judge}
use Rattle.judgement.proofs.laws.Judgements.{accepted_sound}
use Rattle.external.specs.Coding.{encode_nibbles, decode_nibbles, multiply, encode_by, decode_by, encode_input, decode_input, output_first, encode_output, decode_output}
use Rattle.external.specs.Undoing.{OutputFirst, Undoing, PlainCoding}
use Rattle.answers.specs.Answer.{Accepted}

-- Nibble q of packed bytes, where only the nibbles that are packed are known to be below 16.
nibble_of : (n : ℕ) (f : ℕ → ℕ) → ((j : ℕ) → j < 2 * n → f j < 16) → (q : ℕ) → q < 2 * n → nibble (packed n f) q ≡ f q
unfolding nibble
nibble_of n f b q h =
    rw (at_packed n f (q / 2) (omega arith))
    (⊎_elim
    (λ p. rw p.0 (omega (arith, b (2 * (q / 2) + 1) (omega arith)) ∙ ap f (sym p.1)))
    (λ p. rw p.0 (omega (arith, b (2 * (q / 2) + 1) (omega arith)) ∙ ap f (sym p.1)))
    (parity q))

-- ---- encodings on nibbles
module _ (E : ℕ → List ℕ) (first : ℕ) (perms : (q : ℕ) → q < 32 → Permutation (E (first + q))) where
  pub encode_nibbles_bytes : (x : List ℕ) → Block (encode_nibbles E first x)
  unfolding encode_nibbles
  encode_nibbles_bytes x = record {
    long = length_packed 16 _;
    bytes = packed_bytes 16 (λ q. encode (E (first + q)) (nibble x q)) (λ j b. single.encode_lt (perms j b) (nibble x j));
  }

  module _ (y : List ℕ) (B : Block y) where
    below : (q : ℕ) → q < 32 → decode (E (first + q)) (nibble y q) < 16
    below q b = single.decode_lt (E (first + q)) (perms q b) (nibble y q) (nibble_lt y B.bytes q)

    pub decode_nibbles_bytes : Block (decode_nibbles E first y)
    unfolding decode_nibbles
    decode_nibbles_bytes = record {
      long = length_packed 16 _;
      bytes = packed_bytes 16 (λ q. decode (E (first + q)) (nibble y q)) below;
    }

    pub decode_encode : decode_nibbles E first (encode_nibbles E first y) ≡ y
    unfolding decode_nibbles encode_nibbles
    decode_encode =
        packed_ext 16 _ (nibble y)
        (λ q b.
        ap (decode (E (first + q))) (nibble_of 16 (λ q. encode (E (first + q)) (nibble y q)) (λ j c. single.encode_lt (perms j c) (nibble y j)) q b)
        ∙ single.decode_encode (perms q b) (nibble y q) (nibble_lt y B.bytes q))
        ∙ packed_nibbles 16 y B.long

    pub encode_decode : encode_nibbles E first (decode_nibbles E first y) ≡ y
    unfolding decode_nibbles encode_nibbles
    encode_decode =
        packed_ext 16 _ (nibble y)
        (λ q b.
        ap (encode (E (first + q))) (nibble_of 16 (λ q. decode (E (first + q)) (nibble y q)) below q b)
        ∙ single.encode_decode (E (first + q)) (perms q b) (nibble y q) (nibble_lt y B.bytes q))
        ∙ packed_nibbles 16 y B.long

-- ---- matrices
pub multiply_block : (m x : List ℕ) → Block (multiply m x)
unfolding multiply
multiply_block m x = bytes_of_block (product 128 m (number_of 16 x))

pub multiply_back : (m u : List ℕ) → Undoes 128 (product 128 u) (product 128 m) → (x : List ℕ) → Block x → multiply u (multiply m x) ≡ x
unfolding multiply
multiply_back m u back x B =
    ap (λ (z : ℕ). bytes_of 16 (product 128 u z)) (number_of_bytes_of 16 (product 128 m (number_of 16 x)) (product_lt 128 (at m) (number_of 16 x)))
    ∙ ap (bytes_of 16) (back (number_of 16 x) (number_of_lt 16 x B.bytes))
    ∙ bytes_of_number_of 16 x B.long B.bytes

-- ---- both
module _ (E : ℕ → List ℕ) (first : ℕ) (m : List ℕ) (perms : (q : ℕ) → q < 32 → Permutation (E (first + q)))
    (U : UndoesBothWays 128 m (inverse_of 128 m)) (x : List ℕ) (B : Block x) where
  decode_encode_by : decode_by E first m (encode_by E first m x) ≡ x
  unfolding encode_by decode_by
  decode_encode_by =
      ap (multiply (inverse_of 128 m)) (decode_encode E first perms (multiply m x) (multiply_block m x))
      ∙ multiply_back m (inverse_of 128 m) U.left x B

  encode_decode_by : encode_by E first m (decode_by E first m x) ≡ x
  unfolding encode_by decode_by
  encode_decode_by =
      ap (encode_nibbles E first) (multiply_back (inverse_of 128 m) m U.right (decode_nibbles E first x) (decode_nibbles_bytes E first perms x B))
      ∙ encode_decode E first perms x B

  encode_by_block : Block (encode_by E first m x)
  unfolding encode_by
  encode_by_block = encode_nibbles_bytes E first perms (multiply m x)

  decode_by_block : Block (decode_by E first m x)
  unfolding decode_by
  decode_by_block = multiply_block (inverse_of 128 m) (decode_nibbles E first x)

-- ---- for an accepted bundle
module _ (nr : ℕ) (l : List ℕ) (bytes : Bytes l) (ok : judge nr l ≡ Accepted) where
  pub accepted_input : UndoesBothWays 128 (input_matrix nr l) (inverse_of 128 (input_matrix nr l))
  accepted_input =
      inverse_undoes 128 (input_matrix nr l) (matrix_of_fits 16 (input_matrix_part nr l) (at_bytes nr l 3 0 bytes)) (accepted_sound nr l bytes ok).input

  pub accepted_output : UndoesBothWays 128 (output_matrix nr l) (inverse_of 128 (output_matrix nr l))
  accepted_output =
      inverse_undoes 128 (output_matrix nr l) (matrix_of_fits 16 (output_matrix_part nr l) (at_bytes nr l 4 0 bytes)) (accepted_sound nr l bytes ok).output

  -- The 32 encodings from any place on that leaves room for them.
  pub accepted_encodings : (first : ℕ) → first + 32 ≤ encodings nr → (q : ℕ) → q < 32 → Permutation (encoding_of nr l (first + q))
  accepted_encodings first h q b = (accepted_sound nr l bytes ok).lists (first + q) (omega arith)

pub input_room : (nr : ℕ) → 0 + 32 ≤ encodings nr
unfolding encodings
input_room nr = omega arith

pub output_room : (nr : ℕ) → output_first nr + 32 ≤ encodings nr
unfolding output_first encodings
output_room nr = omega arith

pub output_first_lem : OutputFirst
unfolding output_first encodings
output_first_lem = refl

pub undoing : Undoing
unfolding encode_input decode_input encode_output decode_output
undoing nr l bytes ok x B =
    let E = encoding_of nr l in
    let P = accepted_encodings nr l bytes ok 0 (input_room nr) in
    let Q = accepted_encodings nr l bytes ok (output_first nr) (output_room nr) in
    let I = accepted_input nr l bytes ok in
    let O = accepted_output nr l bytes ok in
    record {
      input = decode_encode_by E 0 (input_matrix nr l) P I x B;
      input_back = encode_decode_by E 0 (input_matrix nr l) P I x B;
      output = decode_encode_by E (output_first nr) (output_matrix nr l) Q O x B;
      output_back = encode_decode_by E (output_first nr) (output_matrix nr l) Q O x B;
      input_block = (encode_by_block E 0 (input_matrix nr l) P I x B, decode_by_block E 0 (input_matrix nr l) P I x B);
      output_block = (encode_by_block E (output_first nr) (output_matrix nr l) Q O x B, decode_by_block E (output_first nr) (output_matrix nr l) Q O x B);
    }

-- ---- encodings and a matrix that change nothing
plain_nibbles : (E : ℕ → List ℕ) (first : ℕ) → ((q : ℕ) → q < 32 → E (first + q) ≡ plain_encoding) → (x : List ℕ) → Block x → encode_nibbles E first x ≡ x
unfolding encode_nibbles plain_encoding
plain_nibbles E first plain x B =
    packed_ext 16 _ (nibble x)
    (λ q b. ap (λ (e : List ℕ). encode e (nibble x q)) (plain q b) ∙ at_tabulate 16 _ (nibble x q) (nibble_lt x B.bytes q))
    ∙ packed_nibbles 16 x B.long

pub plain_multiply : (x : List ℕ) → Block x → multiply (identity 128) x ≡ x
unfolding multiply
plain_multiply x B =
    ap (bytes_of 16) (product_identity 128 (number_of 16 x) (number_of_lt 16 x B.bytes)) ∙ bytes_of_number_of 16 x B.long B.bytes

plain_by : (E : ℕ → List ℕ) (first : ℕ) (m : List ℕ) → ((q : ℕ) → q < 32 → E (first + q) ≡ plain_encoding) → m ≡ identity 128
    → (x : List ℕ) → Block x → encode_by E first m x ≡ x
unfolding encode_by
plain_by E first m plain e x B =
    ap (λ (n : List ℕ). encode_nibbles E first (multiply n x)) e
    ∙ ap (encode_nibbles E first) (plain_multiply x B)
    ∙ plain_nibbles E first plain x B

pub plain_coding : PlainCoding
unfolding encode_input encode_output
plain_coding nr l bytes columns plain x B = record {
  input = plain_by (encoding_of nr l) 0 (input_matrix nr l) (λ q b. plain.lists (0 + q) (omega (arith, input_room nr))) plain.input x B;
  output =
      plain_by (encoding_of nr l) (output_first nr) (output_matrix nr l) (λ q b. plain.lists (output_first nr + q) (omega (arith, output_room nr))) plain.output x B;
}
