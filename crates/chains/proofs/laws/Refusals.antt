-- Laws, not definitions: the answer there and back, in lengths. Behind an accepted `make_set` the bundle is accepted and the set has its length, and each
-- coding gives 16 bytes, so of the later calls' tests only those of the three blocks' lengths are left.
-- Assumes nothing.
use mathlib.Core.Bool.{not}
use mathlib.Core.List.{List}
use mathlib.Core.Path.{◌≡◌, refl, sym, ap, ap₂, ◌∙◌}
use Prim.Native.Nat.{ℕ}
use native.Mathlib.Nat.{le_refl}
use native.Mathlib.Omega.{arith}
use borrow.Author.Tests.{eq-eqb, le-ltb}
use lib.ListN.{length}
use Rattle.answers.specs.Answers.{refused_if, wants_length, and_then}
use Rattle.answers.specs.declared.Refusal.TheVariants.{KeyLength, BlockLength, Unfinished}
use Rattle.answers.proofs.laws.Tests.{together, behind, front, back, length_right}
use Rattle.bits.proofs.laws.Nibbles.{length_packed}
use Rattle.aes.specs.Answers.{answer_of}
use Rattle.judgement.specs.Judge.{judge}
use Rattle.external.specs.Calls as external
use Rattle.external.specs.Coding.{encode_nibbles, encode_by, decode_by, encode_input, encode_output, decode_output}
use Rattle.external.proofs.laws.Coding.{multiply_block}
use Rattle.layout.specs.Stages.{lookups, set_bytes}
use Rattle.calls.specs.Calls.{started, to_stop, fetch, judge_fetch, answer, handed}
use Rattle.calls.specs.PlainCount.{stop_args, plain}
use Rattle.calls.proofs.laws.Calls.{start_count, counted}
use Rattle.calls.proofs.laws.Judged.{presented_right, stop_right}
use Rattle.whitebox.specs.Bundles.{cipher_block, made_set}
use Rattle.whitebox.proofs.laws.Joined.{made_in_set}
use Rattle.tables.specs.Calls.{set_answer}
use Rattle.chains.specs.Whole.{present_answer, over_answer, off_answer, coded_answer, whole_answer, Refusals}
use Rattle.chains.proofs.laws.Whole.{set_given}
use Rattle.answers.specs.Answer.{Answer, Accepted}

-- ---- every coding gives 16 bytes
module _ (nr : ℕ) (l x : List ℕ) where
  input_long : length (encode_input nr l x) ≡ 16
  unfolding encode_input encode_by encode_nibbles
  input_long = length_packed 16 _

  output_long : length (encode_output nr l x) ≡ 16
  unfolding encode_output encode_by encode_nibbles
  output_long = length_packed 16 _

  uncoded_long : length (decode_output nr l x) ≡ 16
  unfolding decode_output decode_by
  uncoded_long = (multiply_block _ _).long

-- ---- the codings of an accepted bundle
coding_lengths : (nr : ℕ) (l : List ℕ) (from : ℕ) → judge nr l ≡ Accepted → external.answer nr l from 16 ≡ wants_length 16 from BlockLength
unfolding external.answer
coding_lengths nr l from j = front j (back refl)

-- ---- the walk over a set of its length, from 16 bytes
module _ (c nr : ℕ) (set x coded : List ℕ) (long : length set ≡ set_bytes nr) where
  moves : answer nr (to_stop set (lookups nr)) (started c x) ≡ Accepted
  unfolding answer
  moves = sym (stop_right nr (length set) (lookups nr) (started c x).state.count long (le_refl (lookups nr)) (omega (arith, start_count c x)))

  at_end : (handed nr (to_stop set (lookups nr)) (started c x)).state.count ≡ lookups nr
  unfolding plain
  at_end =
      counted nr (to_stop set (lookups nr)) (started c x) (omega (arith, start_count c x))
      ∙ ap (λ (n : ℕ). (plain nr (stop_args (length set) (lookups nr)) n).count) (start_count c x)
      ∙ rw (eq-eqb (length set) (set_bytes nr) long, le-ltb (lookups nr) (lookups nr) (le_refl (lookups nr)), le-ltb (lookups nr) 0 (omega arith))

  fetches : answer nr (fetch coded) (handed nr (to_stop set (lookups nr)) (started c x)) ≡ wants_length 16 (length coded) BlockLength
  unfolding answer judge_fetch
  fetches = rw at_end (back (ap (λ b. refused_if (not b) Unfinished) (eq-eqb (lookups nr) (lookups nr) refl)))

walk_lengths : (c : ℕ) (set x coded : List ℕ) → length set ≡ set_bytes 10 → length x ≡ 16 → over_answer c set x coded ≡ wants_length 16 (length coded) BlockLength
unfolding over_answer
walk_lengths c set x coded long block =
    front (sym (presented_right (length x) block)) (front (moves c 10 set x coded long) (fetches c 10 set x coded long))

-- ---- what is taken off, of an accepted bundle and a key of 16 bytes
off_lengths : (key l coded again : List ℕ) → length key ≡ 16 → judge 10 l ≡ Accepted → length coded ≡ 16
    → off_answer key l coded again ≡ wants_length 16 (length again) BlockLength
unfolding off_answer answer_of
off_lengths key l coded again k j c =
    front (coding_lengths 10 l (length coded) j ∙ sym (length_right 16 (length coded) BlockLength c))
    (front (sym (length_right 16 (length key) KeyLength k))
    (front (sym (length_right 16 (length (decode_output 10 l coded)) BlockLength (uncoded_long 10 l coded))) refl))

-- ---- all of it
pub refusals : Refusals
unfolding whole_answer coded_answer present_answer
refusals c key l block set coded again =
    let A : Answer = set_answer (length key) l (length set) in
    let E : Answer = external.answer 10 l (length block) 16 in
    let W : Answer = over_answer c (made_set c 4 key l) (encode_input 10 l block) coded in
    let O : Answer = off_answer key l (encode_output 10 l (cipher_block c 4 key block)) again in
    together (and_then A E) W O
    ∙ together A E (and_then W O)
    ∙ behind A (λ e.
    let given = set_given key l set e in
    ap₂ and_then (coding_lengths 10 l (length block) given.1)
    (ap₂ and_then (walk_lengths c (made_set c 4 key l) (encode_input 10 l block) coded (made_in_set 4 c key l).long (input_long 10 l block))
    (off_lengths key l (encode_output 10 l (cipher_block c 4 key block)) again given.0 given.1 (output_long 10 l (cipher_block c 4 key block)))))
