-- Laws, not definitions: the numbers that the calls for C return, and that both of the documents' numbers can be read off them.
-- Assumes nothing.
use mathlib.Core.Bool.{Bool, false, not}
use mathlib.Core.List.{List}
use mathlib.Core.Path.{◌≡◌, refl}
use Prim.Native.Nat.{ℕ, ◌≤◌}
use native.Mathlib.Omega.{arith}
use lib.Dec.{ltb}
use lib.ListN.{length}
use Rattle.answers.specs.Answers.{wants_length, and_then}
use Rattle.answers.specs.Numbers.{second_of}
use Rattle.answers.specs.declared.Refusal.{Refusal}
use Rattle.answers.specs.declared.Refusal.TheVariants.{KeyLength, BundleLength, Pair, Encoding, ByteMatrix, ColumnMatrix, InputMatrix, OutputMatrix}
use Rattle.answers.specs.declared.Refusal.TheVariants.{TableNumber, SetLength, BlockLength, RecordLength}
use Rattle.answers.proofs.laws.Numbers.{readable, Small, small_and_then, small_test, small_length}
use Rattle.answers.specs.Search.{first, refused_at}
use Rattle.answers.proofs.laws.Search.{at_bad, by_refused_at}
use Rattle.aes.specs.Answers.{answer_of}
use Rattle.bundle.specs.Format.{encodings, byte_matrices, column_matrices, input_matrix_part, output_matrix_part, length_bad, pair_bad, frame}
use Rattle.judgement.specs.Judge.{no_inverse, encoding_bad, byte_matrix_bad, column_matrix_bad}
use Rattle.judgement.specs.Judge.{judge_encodings, judge_byte_matrices, judge_column_matrices, judge_block_matrices, judge}
use Rattle.external.specs.Calls.{answer}
use Rattle.layout.specs.Stages.{lookups, set_bytes, table_size}
use Rattle.tables.specs.Calls.{judged_for, set_answer_for, table_answer_for, judged, set_answer, table_answer}
use Rattle.calls.specs.Calls.{judge_whole}
use Rattle.records.specs.Record.{record_bytes}
use Rattle.records.specs.Replay.{judge_record}
use Rattle.host.specs.Returned.{Returned}
use Rattle.one_call.specs.Walks.{walk_answer_for, walk_answer}
use Rattle.told.proofs.laws.Entries.{entry_small}

-- ---- The number returned with a cause has 32 bits.
-- What a search among no more than 65,536 numbers finds.
found_small : (count : ℕ) (p : ℕ → Bool) (r : ℕ → Refusal) → count ≤ 65536 → ((n : ℕ) → second_of (r n) ≡ n) → Small (refused_at (first count p) r)
found_small count p r le s =
    by_refused_at Small (first count p) r
    (λ n e. let lt = (at_bad count p (λ i. p i ≡ false) (λ i f. f) (λ i f. f) n e).below in record { below = omega (arith, s n) })
    (λ _. record { below = omega arith })

module _ (l : List ℕ) where
  frame_small : Small (frame 10 l)
  unfolding frame
  frame_small =
      small_and_then _ _ (small_test (length_bad 10 l) BundleLength (omega arith)) (found_small 5 (pair_bad 10 l) Pair (omega arith) (λ n. refl))

  encodings_small : Small (judge_encodings 10 l)
  unfolding judge_encodings encodings
  encodings_small = found_small (encodings 10) (encoding_bad 10 l) Encoding (omega arith) (λ n. refl)

  byte_matrices_small : Small (judge_byte_matrices 10 l)
  unfolding judge_byte_matrices byte_matrices
  byte_matrices_small = found_small (byte_matrices 10) (byte_matrix_bad 10 l) ByteMatrix (omega arith) (λ n. refl)

  column_matrices_small : Small (judge_column_matrices 10 l)
  unfolding judge_column_matrices column_matrices
  column_matrices_small = found_small (column_matrices 10) (column_matrix_bad 10 l) ColumnMatrix (omega arith) (λ n. refl)

  block_matrices_small : Small (judge_block_matrices 10 l)
  unfolding judge_block_matrices
  block_matrices_small =
      small_and_then _ _
      (small_test (no_inverse 16 (input_matrix_part 10 l)) InputMatrix (omega arith))
      (small_test (no_inverse 16 (output_matrix_part 10 l)) OutputMatrix (omega arith))

  judge_small : Small (judge 10 l)
  unfolding judge
  judge_small =
      let matrices = small_and_then _ _ byte_matrices_small (small_and_then _ _ column_matrices_small block_matrices_small) in
      small_and_then _ _ frame_small (small_and_then _ _ encodings_small matrices)

-- Two blocks of 16 bytes, in and out.
blocks_small : (from to : ℕ) → Small (and_then (wants_length 16 from BlockLength) (wants_length 16 to BlockLength))
blocks_small from to = small_and_then _ _ (small_length 16 from BlockLength (omega arith)) (small_length 16 to BlockLength (omega arith))

answer_small : (l : List ℕ) (from to : ℕ) → Small (answer 10 l from to)
unfolding answer
answer_small l from to = small_and_then _ _ (judge_small l) (blocks_small from to)

cipher_small : (key from into : List ℕ) → Small (answer_of key from into)
unfolding answer_of
cipher_small key from into = small_and_then _ _ (small_length 16 (length key) KeyLength (omega arith)) (blocks_small (length from) (length into))

judged_small : (key : ℕ) (l : List ℕ) → Small (judged key l)
unfolding judged_for
judged_small key l = small_and_then _ _ (small_length 16 key KeyLength (omega arith)) (judge_small l)

set_small : (key : ℕ) (l : List ℕ) (memory : ℕ) → Small (set_answer key l memory)
unfolding set_answer_for
set_small key l memory = small_and_then _ _ (judged_small key l) (small_length (set_bytes 10) memory SetLength (omega arith))

table_small : (key : ℕ) (l : List ℕ) (number memory : ℕ) → Small (table_answer key l number memory)
unfolding table_answer_for
table_small key l number memory =
    let table = small_length (table_size 10 number) memory SetLength (omega arith) in
    small_and_then _ _ (judged_small key l) (small_and_then _ _ (small_test (not (ltb number (lookups 10))) TableNumber (omega arith)) table)

-- A whole set and a block.
whole_small : (set block : ℕ) → Small (judge_whole 10 set block)
unfolding judge_whole
whole_small set block = small_and_then _ _ (small_length (set_bytes 10) set SetLength (omega arith)) (small_length 16 block BlockLength (omega arith))

walk_small : (set block answer : ℕ) → Small (walk_answer set block answer)
unfolding walk_answer_for
walk_small set block answer = small_and_then _ _ (whole_small set block) (small_length 16 answer BlockLength (omega arith))

record_small : (set block rec : ℕ) → Small (judge_record 10 set block rec)
unfolding judge_record
record_small set block rec = small_and_then _ _ (whole_small set block) (small_length (record_bytes 10) rec RecordLength (omega arith))

pub returned : Returned
returned = record {
  judgements = λ l. readable _ (judge_small l).below;
  codings = λ l from to. readable _ (answer_small l from to).below;
  ciphers = λ key from into. readable _ (cipher_small key from into).below;
  sets = λ key l memory. readable _ (set_small key l memory).below;
  singles = λ key l number memory. readable _ (table_small key l number memory).below;
  walks = λ set block answer. readable _ (walk_small set block answer).below;
  records = λ set block rec. readable _ (record_small set block rec).below;
  bits = λ set block. readable _ (whole_small set block).below;
  entries = λ position. readable _ (entry_small position).below;
}
