-- Laws, not definitions: the definitions as the code meets them.
-- Assumes nothing.
use mathlib.Core.Bool.{true}
use mathlib.Core.List.{List}
use mathlib.Core.Path.{◌≡◌, sym, ap, ap₂, ◌∙◌, subst}
use Prim.Native.Nat.{ℕ, ◌+◌, ◌*◌, ◌/◌, ◌%◌, ◌≤◌, ◌<◌}
use native.Mathlib.Nat.{zero-add}
use native.Mathlib.Omega.{arith}
use lib.ListN.{length}
use Rattle.answers.specs.Answers.{wants_length, and_then, if_accepted}
use Rattle.answers.specs.declared.Refusal.{Refusal}
use Rattle.answers.specs.declared.Refusal.TheVariants.{BlockLength}
use Rattle.answers.proofs.laws.Tests.{first_refuses, second_decides, both, from_wrong, to_wrong, lengths_right, lengths_were, left_new, left_old}
use Rattle.bits.specs.Bytes.{Bytes, number, bytes_of}
use Rattle.bits.specs.Encodings.{encode, decode, images_of, Permutation}
use Rattle.bits.specs.Lists.{at, tabulate}
use Rattle.bits.specs.Nibbles.{pack, nibble, packed}
use Rattle.bits.proofs.laws.Encodings.{decode_lt}
use Rattle.bits.proofs.laws.Filled.{Filled, filled_all}
use Rattle.bits.proofs.laws.Groups.{joined_same}
use Rattle.bits.proofs.laws.Lists.{tabulate_ext}
use Rattle.bits.proofs.laws.Nibbles.{nibble_even, nibble_odd, length_packed}
use Rattle.matrices.specs.Matrices.{product, Invertible, matrix_of}
use Rattle.matrices.specs.Rows.{rows_of, stored}
use Rattle.matrices.proofs.laws.Stored.{read_rows, matrix_of_fits}
use Rattle.inversion.specs.Elimination.{invert, inverse_of, has_inverse, with_inverse}
use Rattle.inversion.proofs.laws.Inverses.{invertible_passes, inverse_left}
use Rattle.bundle.specs.Format.{encoding_of, frame, part_at, input_matrix_part, output_matrix_part}
use Rattle.bundle.proofs.laws.Code.{block_room}
use Rattle.bundle.proofs.laws.Parts.{at_bytes}
use Rattle.judgement.specs.Judge.{judge}
use Rattle.judgement.proofs.laws.Judgements.{accepted_sound}
use Rattle.external.specs.Calls.{answer, leaves}
use Rattle.external.specs.Coding.{encode_nibbles, decode_nibbles, multiply, encode_by, decode_by}
use Rattle.external.specs.Coding.{encode_input, decode_input, output_first, encode_output, decode_output}
use Rattle.external.proofs.laws.Coding.{multiply_block, accepted_encodings, output_room}
use Rattle.answers.specs.Answer.{Answer, Accepted, Refused}

-- ---- encodings on nibbles, byte by byte: g is `encode` or `decode`
abbrev pub byte_by : (List ℕ → ℕ → ℕ) → (ℕ → List ℕ) → ℕ → List ℕ → ℕ → ℕ
byte_by g E first x i = pack (g (E (first + 2 * i)) (at x i / 16)) (g (E (first + 2 * i + 1)) (at x i % 16))

by_bytes : (g : List ℕ → ℕ → ℕ) (E : ℕ → List ℕ) (first : ℕ) (x : List ℕ)
    → tabulate 16 (byte_by g E first x) ≡ packed 16 (λ q. g (E (first + q)) (nibble x q))
unfolding packed
by_bytes g E first x = tabulate_ext 16 _ _ (λ i h.
    let k : first + 2 * i + 1 ≡ first + (2 * i + 1) = omega arith in
    rw (k, nibble_even x i, nibble_odd x i))

-- Behind the loop over the bytes.
module _ (E : ℕ → List ℕ) (first : ℕ) (x : List ℕ) {t : List ℕ} {i : ℕ} where
  pub encode_filled : Filled 16 (byte_by encode E first x) t i → 16 ≤ i → t ≡ encode_nibbles E first x
  unfolding encode_nibbles
  encode_filled g h = filled_all g h ∙ by_bytes encode E first x

  pub decode_filled : Filled 16 (byte_by decode E first x) t i → 16 ≤ i → t ≡ decode_nibbles E first x
  unfolding decode_nibbles
  decode_filled g h = filled_all g h ∙ by_bytes decode E first x

pub nibbles_long : (E : ℕ → List ℕ) (first : ℕ) (x t : List ℕ) → t ≡ decode_nibbles E first x → length t ≡ 16
unfolding decode_nibbles
nibbles_long E first x t e = ap length e ∙ length_packed 16 (λ q. decode (E (first + q)) (nibble x q))

-- What a byte's decoding asks: the encodings of its two nibbles are permutations.
pub byte_permutations : (E : ℕ → List ℕ) (first : ℕ) → ((q : ℕ) → q < 32 → Permutation (E (first + q))) → (i : ℕ) → i < 16
    → Permutation (E (first + 2 * i)) × Permutation (E (first + 2 * i + 1))
byte_permutations E first perms i h =
    let odd : first + (2 * i + 1) ≡ first + 2 * i + 1 = omega arith in
    (perms (2 * i) (omega arith), subst (λ (n : ℕ). Permutation (E n)) odd (perms (2 * i + 1) (omega arith)))

-- A nibble decoded by the encoding that the part p of a bundle holds.
pub decoded_lt : {p q : List ℕ} {x v : ℕ} → v ≡ decode (images_of p) x → p ≡ q → Permutation (images_of q) → x < 16 → v < 16
decoded_lt {p} {q} {x} e f perm h = rw (e, f) (decode_lt (images_of q) perm x h)

-- ---- products
pub multiplied : (m x d : List ℕ) (n v p : ℕ) → n ≡ 16 → v ≡ number 16 (λ j. at x (0 + j)) → p ≡ product 128 m v → d ≡ bytes_of n p
    → d ≡ multiply m x
unfolding multiply
multiplied m x d n v p h a b c =
    c ∙ ap₂ bytes_of h (b ∙ ap (product 128 m) (a ∙ joined_same 8 16 (λ j. at x (0 + j)) (at x) (λ j k. ap (at x) (zero-add j))))

-- By the matrix that bytes write: the code reads it into the rows a, which had the place b.
pub multiplied_read : (p x a b d : List ℕ) → 256 ≤ length b → a ≡ stored 128 (at (matrix_of 16 p)) b → d ≡ multiply (rows_of 128 a) x
    → d ≡ multiply (matrix_of 16 p) x
multiplied_read p x a b d h e q = q ∙ ap (λ (r : List ℕ). multiply r x) (read_rows 16 p b a h e)

pub multiply_long : (m x t : List ℕ) → t ≡ multiply m x → length t ≡ 16
multiply_long m x t e = ap length e ∙ (multiply_block m x).long

-- By the inverse of the matrix that bytes write: the inversion leaves the rows a, which had the place b.
module _ (p : List ℕ) (has : has_inverse (invert 128 (matrix_of 16 p)) ≡ true) where
  pub multiplied_back : Bytes p → (x a b d : List ℕ) → 256 ≤ length b → a ≡ with_inverse 128 (invert 128 (matrix_of 16 p)) b
      → d ≡ multiply (rows_of 128 a) x → d ≡ multiply (inverse_of 128 (matrix_of 16 p)) x
  multiplied_back bytes x a b d h e q = q ∙ ap (λ (r : List ℕ). multiply r x) (inverse_left 16 p bytes b a has h e)

-- ---- answers: j is what the code's judgement answers
module _ (nr : ℕ) (l : List ℕ) (from to : ℕ) (j : Answer) (judged : j ≡ judge nr l) where
  pub answer_bundle : {r : Refusal} → j ≡ Refused r → Refused r ≡ answer nr l from to
  unfolding answer
  answer_bundle {r} e = first_refuses _ _ r (sym judged ∙ e)

  by_blocks : j ≡ Accepted → and_then (wants_length 16 from BlockLength) (wants_length 16 to BlockLength) ≡ answer nr l from to
  unfolding answer
  by_blocks e = second_decides _ _ (sym judged ∙ e)

  pub answer_from : j ≡ Accepted → (from ≡ 16 → ⊥) → Refused BlockLength ≡ answer nr l from to
  answer_from e n = from_wrong 16 from to BlockLength n ∙ by_blocks e

  pub answer_to : j ≡ Accepted → from ≡ 16 → (to ≡ 16 → ⊥) → Refused BlockLength ≡ answer nr l from to
  answer_to e p n = to_wrong 16 from to BlockLength p n ∙ by_blocks e

  pub answer_accepted : j ≡ Accepted → from ≡ 16 → to ≡ 16 → Accepted ≡ answer nr l from to
  answer_accepted e p q = lengths_right 16 from to BlockLength p q ∙ by_blocks e

-- What an accepted call was lent.
pub record Ready (nr : ℕ) (l : List ℕ) (from to : ℕ) : Type 0 where
  pub judged : judge nr l ≡ Accepted
  pub long : from ≡ 16
  pub room : to ≡ 16

pub accepted_ready : {nr : ℕ} {l : List ℕ} {from to : ℕ} {a : Answer} → a ≡ answer nr l from to → a ≡ Accepted → Ready nr l from to
unfolding answer
accepted_ready {nr} {l} {from} {to} e d =
    let whole = both (judge nr l) _ (sym e ∙ d) in
    let blocks = lengths_were 16 from to BlockLength whole.second in
    record { judged = whole.first; long = blocks.0; room = blocks.1 }

-- ---- what a call leaves of the lent block `old`, where c is the answer for the bundle and the blocks and a what the code has of it
module _ {a c : Answer} (e : a ≡ c) where
  pub refused : {r : Refusal} (new old : List ℕ) → a ≡ Refused r → old ≡ if_accepted c new old
  refused {r} new old f = left_old c r new old (sym e ∙ f)

  -- Both steps done.
  module _ (done : a ≡ Accepted) (E : ℕ → List ℕ) (first : ℕ) (m x t old out : List ℕ) where
    pub encoded_by : t ≡ multiply m x → out ≡ encode_nibbles E first t → out ≡ if_accepted c (encode_by E first m x) old
    unfolding encode_by
    encoded_by p q = (q ∙ ap (encode_nibbles E first) p) ∙ left_new c _ old (sym e ∙ done)

    pub decoded_by : t ≡ decode_nibbles E first x → out ≡ multiply (inverse_of 128 m) t → out ≡ if_accepted c (decode_by E first m x) old
    unfolding decode_by
    decoded_by p q = (q ∙ ap (multiply (inverse_of 128 m)) p) ∙ left_new c _ old (sym e ∙ done)

-- ---- the block matrices of an accepted bundle, as the public calls lend them: the part p
module _ (nr : ℕ) (l : List ℕ) (s : ℕ) (h : 3 ≤ s) (k : s < 5) (p : List ℕ) (e : p ≡ part_at nr l s 0) where
  matrix_room : judge nr l ≡ Accepted → 2048 ≤ length p
  unfolding judge
  matrix_room a = block_room nr l s (both (frame nr l) _ a).first h k p e

part_has : (p q : List ℕ) → p ≡ q → Bytes q → Invertible 128 (matrix_of 16 q) → has_inverse (invert 128 (matrix_of 16 p)) ≡ true
part_has p q e bytes I = rw e (invertible_passes 128 (matrix_of 16 q) (matrix_of_fits 16 q bytes) I)

module _ (nr : ℕ) (l : List ℕ) {p : List ℕ} where
  pub input_long : p ≡ input_matrix_part nr l → judge nr l ≡ Accepted → 2048 ≤ length p
  input_long e = matrix_room nr l 3 (omega arith) (omega arith) p e

  pub output_long : p ≡ output_matrix_part nr l → judge nr l ≡ Accepted → 2048 ≤ length p
  output_long e = matrix_room nr l 4 (omega arith) (omega arith) p e

  pub input_has : p ≡ input_matrix_part nr l → Bytes l → judge nr l ≡ Accepted → has_inverse (invert 128 (matrix_of 16 p)) ≡ true
  input_has e bytes a = part_has p _ e (at_bytes nr l 3 0 bytes) (accepted_sound nr l bytes a).input

  pub output_has : p ≡ output_matrix_part nr l → Bytes l → judge nr l ≡ Accepted → has_inverse (invert 128 (matrix_of 16 p)) ≡ true
  output_has e bytes a = part_has p _ e (at_bytes nr l 4 0 bytes) (accepted_sound nr l bytes a).output

-- ---- the four codings: what the code does with the part p is what the definition does with the bundle's matrix
module _ (nr : ℕ) (l x old : List ℕ) {p out : List ℕ} where
  pub input_encoded : p ≡ input_matrix_part nr l → out ≡ leaves nr l (encode_by (encoding_of nr l) 0 (matrix_of 16 p)) x old
      → out ≡ leaves nr l (encode_input nr l) x old
  unfolding encode_input
  input_encoded e q = q ∙ rw e

  pub input_decoded : p ≡ input_matrix_part nr l → out ≡ leaves nr l (decode_by (encoding_of nr l) 0 (matrix_of 16 p)) x old
      → out ≡ leaves nr l (decode_input nr l) x old
  unfolding decode_input
  input_decoded e q = q ∙ rw e

  -- The output's encodings begin at the number that the code has: first.
  module _ {first : ℕ} (f : output_first nr ≡ first) where
    pub output_encoded : p ≡ output_matrix_part nr l → out ≡ leaves nr l (encode_by (encoding_of nr l) first (matrix_of 16 p)) x old
        → out ≡ leaves nr l (encode_output nr l) x old
    unfolding encode_output
    output_encoded e q = q ∙ rw (e, ← f)

    pub output_decoded : p ≡ output_matrix_part nr l → out ≡ leaves nr l (decode_by (encoding_of nr l) first (matrix_of 16 p)) x old
        → out ≡ leaves nr l (decode_output nr l) x old
    unfolding decode_output
    output_decoded e q = q ∙ rw (e, ← f)

-- The 32 encodings that a call takes off, from a place on that is not behind the output's.
pub called_encodings : (nr : ℕ) (l : List ℕ) → Bytes l → judge nr l ≡ Accepted → {last : ℕ} → output_first nr ≡ last → (first : ℕ) → first ≤ last
    → (q : ℕ) → q < 32 → Permutation (encoding_of nr l (first + q))
called_encodings nr l bytes a f first h = accepted_encodings nr l bytes a first (omega (arith, output_room nr))
