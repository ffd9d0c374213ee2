-- Laws, not definitions: the statements of specs/Exchanged.antt. A coding goes by its 32 lists and its matrix alone, so where these are equal, on the same or on the
-- other side, the codings are. A house's bundle is built, so it is accepted, and holds the lists and matrices that it was built from.
-- Assumes nothing.
use mathlib.Core.Bool.{Bool, true, false, cond}
use mathlib.Core.List.{List}
use mathlib.Core.Path.{◌≡◌, refl, sym, ap, ◌∙◌}
use Prim.Native.Nat.{ℕ, ◌+◌, ◌≤◌, ◌<◌}
use native.Mathlib.Omega.{arith}
use borrow.Author.Tests.{lt-ltb, le-ltb}
use lib.Dec.{ltb}
use lib.ListN.{replicate}
use Rattle.bits.specs.Bytes.{Bytes, Block}
use Rattle.bits.specs.Encodings.{encode, decode, Permutation, plain_encoding}
use Rattle.bits.specs.Lists.{at, tabulate}
use Rattle.bits.specs.Nibbles.{nibble, packed}
use Rattle.bits.proofs.laws.Encodings.{encode_lt, permutation_by_test, plain_permutation}
use Rattle.bits.proofs.laws.Lists.{zero_at}
use Rattle.bits.proofs.laws.Nibbles.{packed_ext, nibble_packed, nibble_zero}
use Rattle.matrices.specs.Matrices.{identity, Square, Invertible}
use Rattle.matrices.proofs.laws.Matrices.{identity_square, identity_invertible}
use Rattle.bundle.specs.Built.{Holds, Built}
use Rattle.bundle.specs.Format.{encodings, encoding_of, shortest, longest}
use Rattle.bundle.proofs.laws.Built.{building}
use Rattle.judgement.specs.Judge.{judge}
use Rattle.judgement.specs.Witness.{Buildable, mixing_matrix}
use Rattle.judgement.proofs.laws.Mixing.{mixing_square, mixing_matrices}
use Rattle.judgement.proofs.laws.Witness.{built_accepted, ten_fits}
use Rattle.external.specs.Coding.{encode_nibbles, multiply, encode_by, output_first, encode_input, encode_output}
use Rattle.external.specs.Exchanged.{EqualCodeAlike, ExchangedCross, outer_lists, house_bundle, HousesCross}
use Rattle.external.specs.Exchanged.{turned_round, next_nibble, SomeHouse}
use Rattle.external.proofs.laws.Coding.{input_room, output_room, plain_multiply}
use Rattle.answers.specs.Answer.{Accepted}

-- ---- a coding goes by its lists and its matrix
same_coding : (E E' : ℕ → List ℕ) (first first' : ℕ) (m m' x : List ℕ) → ((q : ℕ) → q < 32 → E (first + q) ≡ E' (first' + q)) → m ≡ m'
    → encode_by E first m x ≡ encode_by E' first' m' x
unfolding encode_by encode_nibbles
same_coding E E' first first' m m' x lists matrix =
    ap (λ (n : List ℕ). encode_nibbles E first (multiply n x)) matrix
    ∙ packed_ext 16 _ _ (λ q h. ap (λ (e : List ℕ). encode e (nibble (multiply m' x) q)) (lists q h))

-- The input coding's lists are counted from 0.
from_zero : (E : ℕ → List ℕ) (q : ℕ) → E (0 + q) ≡ E q
from_zero E q = ap E (let e : 0 + q ≡ q = omega arith in e)

pub equal_code_alike : EqualCodeAlike
unfolding encode_input encode_output
equal_code_alike nr k l equal = record {
  input = λ x b.
      same_coding _ _ 0 0 _ _ x (λ q h. from_zero (encoding_of nr k) q ∙ equal.input_lists q h ∙ sym (from_zero (encoding_of nr l) q)) equal.input_matrix_lem;
  output = λ x b. same_coding _ _ (output_first nr) (output_first nr) _ _ x equal.output_lists equal.output_matrix_lem;
}

pub exchanged_cross : ExchangedCross
unfolding encode_input encode_output
exchanged_cross nr k l other = record {
  input = λ x b. same_coding _ _ 0 (output_first nr) _ _ x (λ q h. from_zero (encoding_of nr k) q ∙ other.input_lists q h) other.input_matrix_lem;
  output = λ x b. same_coding _ _ (output_first nr) 0 _ _ x (λ q h. other.output_lists q h ∙ sym (from_zero (encoding_of nr l) q)) other.output_matrix_lem;
}

-- ---- houses
-- The outer lists by number: the first 32 and the last 32.
first_list : (nr : ℕ) (A B : List ℕ) (q : ℕ) → q < 32 → outer_lists nr A B q ≡ A
first_list nr A B q h = rw (lt-ltb q 32 h)

last_list : (nr : ℕ) (A B : List ℕ) (q : ℕ) → outer_lists nr A B (output_first nr + q) ≡ B
last_list nr A B q = rw (le-ltb (output_first nr + q) 32 (omega (arith, behind nr)), le-ltb (output_first nr + q) (output_first nr) (omega arith))
  where
    behind : (nr : ℕ) → 32 ≤ output_first nr
    behind nr = unfold output_first encodings in omega arith

outer_permutations : (nr : ℕ) (A B : List ℕ) → Permutation A → Permutation B → (n : ℕ) → Permutation (outer_lists nr A B n)
outer_permutations nr A B a b n = either (ltb n 32) (ltb n (output_first nr))
  where
    either : (s t : Bool) → Permutation (cond s A (cond t plain_encoding B))
    either true t = a
    either false true = plain_permutation
    either false false = b

module _ (nr : ℕ) (fits : shortest nr ≤ longest nr) where
  -- One house: what its bundle is built from.
  module _ {A B I O : List ℕ} (a : Permutation A) (b : Permutation B) (i : Square 128 I) (i' : Invertible 128 I) (o : Square 128 O) (o' : Invertible 128 O) where
    buildable : Buildable nr (outer_lists nr A B) (λ n. mixing_matrix 2) (λ n. mixing_matrix 8) I O
    buildable = record {
      writable = record {
        lists = λ n h. let p = outer_permutations nr A B a b n in record { long = p.long; below = encode_lt p };
        bytes = λ n h. mixing_square 2;
        columns = λ n h. mixing_square 8;
        input = i;
        output = o;
      };
      lists = λ n h. outer_permutations nr A B a b n;
      bytes = λ n h. mixing_matrices.0;
      columns = λ n h. mixing_matrices.1;
      input = i';
      output = o';
    }

    house_built : Built nr (outer_lists nr A B) (λ n. mixing_matrix 2) (λ n. mixing_matrix 8) I O
    house_built = building nr _ _ _ _ _ fits buildable.writable

    house_accepted : judge nr (house_bundle nr A B I O) ≡ Accepted
    unfolding house_bundle
    house_accepted = built_accepted nr _ _ _ _ _ fits buildable

    house_bytes : Bytes (house_bundle nr A B I O)
    unfolding house_bundle
    house_bytes = house_built.all_bytes

    house_holds : Holds nr (outer_lists nr A B) (λ n. mixing_matrix 2) (λ n. mixing_matrix 8) I O (house_bundle nr A B I O)
    unfolding house_bundle
    house_holds = house_built.holds

    house_first : (q : ℕ) → q < 32 → encoding_of nr (house_bundle nr A B I O) q ≡ A
    house_first q h = house_holds.lists q (omega (arith, input_room nr)) ∙ first_list nr A B q h

    house_last : (q : ℕ) → q < 32 → encoding_of nr (house_bundle nr A B I O) (output_first nr + q) ≡ B
    house_last q h = house_holds.lists (output_first nr + q) (omega (arith, output_room nr)) ∙ last_list nr A B q

-- Two houses with all of it exchanged.
pub houses_cross : HousesCross
houses_cross nr A B I O fits a b i i' o o' =
    let one = house_holds nr fits a b i i' o o' in
    let two = house_holds nr fits b a o o' i i' in
    record {
      bytes = (house_bytes nr fits a b i i' o o', house_bytes nr fits b a o o' i i');
      accepted = (house_accepted nr fits a b i i' o o', house_accepted nr fits b a o o' i i');
      crossed = exchanged_cross nr (house_bundle nr A B I O) (house_bundle nr B A O I) (record {
        input_lists = λ q h. house_first nr fits a b i i' o o' q h ∙ sym (house_last nr fits b a o o' i i' q h);
        output_lists = λ q h. house_last nr fits a b i i' o o' q h ∙ sym (house_first nr fits b a o o' i i' q h);
        input_matrix_lem = one.input ∙ sym two.output;
        output_matrix_lem = one.output ∙ sym two.input;
      });
    }

-- ---- some house, whose codings are not the identity
turned_permutation : Permutation turned_round
unfolding tabulate decode
turned_permutation = permutation_by_test turned_round tt

next_permutation : Permutation next_nibble
unfolding tabulate decode
next_permutation = permutation_by_test next_nibble tt

-- Zeros under the identity and one list e for each nibble: each nibble is e's first image.
coded_zeros : (E : ℕ → List ℕ) (first : ℕ) (m e : List ℕ) → Permutation e → ((q : ℕ) → q < 32 → E (first + q) ≡ e) → m ≡ identity 128
    → (q : ℕ) → q < 32 → nibble (encode_by E first m (replicate 16 0)) q ≡ at e 0
coded_zeros E first m e p lists matrix q h =
    ap (λ (y : List ℕ). nibble y q) (same_coding E (λ n. e) first 0 m (identity 128) (replicate 16 0) lists matrix ∙ plainly)
    ∙ nibble_packed 16 _ (λ j. encode_lt p (nibble (replicate 16 0) j)) q h
    ∙ ap (encode e) (nibble_zero 16 q)
  where
    zero_block : Block (replicate 16 0)
    zero_block = record { long = refl; bytes = λ i. omega (arith, zero_at 16 i) }

    plainly : encode_by (λ n. e) 0 (identity 128) (replicate 16 0) ≡ packed 16 (λ j. encode e (nibble (replicate 16 0) j))
    plainly = unfold encode_by encode_nibbles in ap (λ (x : List ℕ). packed 16 (λ j. encode e (nibble x j))) (plain_multiply (replicate 16 0) zero_block)

pub some_house : SomeHouse
unfolding encode_input encode_output tabulate
some_house =
    let square = identity_square 128 in
    let invertible = identity_invertible 128 in
    let holds = house_holds 10 ten_fits turned_permutation next_permutation square invertible square invertible in
    let first = house_first 10 ten_fits turned_permutation next_permutation square invertible square invertible in
    let last = house_last 10 ten_fits turned_permutation next_permutation square invertible square invertible in
    let l = house_bundle 10 turned_round next_nibble (identity 128) (identity 128) in (
      houses_cross 10 _ _ _ _ ten_fits turned_permutation next_permutation square invertible square invertible,
      record {
        input = λ q h. coded_zeros (encoding_of 10 l) 0 _ turned_round turned_permutation (λ q h. from_zero (encoding_of 10 l) q ∙ first q h) holds.input q h;
        output = λ q h. coded_zeros (encoding_of 10 l) (output_first 10) _ next_nibble next_permutation last holds.output q h;
      },
    )
