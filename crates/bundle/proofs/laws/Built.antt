-- Laws, not definitions: a bundle that is built from its encodings and matrices. The pairs are read off again, so every section starts where the one
-- before it ends; each part is then the part of a concatenation.
-- Assumes nothing.
use mathlib.Core.List.{List, ◌++◌}
use mathlib.Core.Path.{◌≡◌, refl, sym, ap, ap₂, ◌∙◌}
use Prim.Native.Nat.{ℕ, zero, suc, ◌+◌, ◌*◌, ◌≤◌, ◌<◌}
use native.Mathlib.Omega.{arith}
use lib.Dec.{lit<}
use lib.ListN.{length, take, drop, length-append, get_or-append}
use lib.Seq.{drop_at, drop-drop, get_or-append-add}
use Rattle.bits.specs.Bytes.{Bytes, number_at, bytes_of}
use Rattle.bits.specs.Encodings.{images_of, encoding_bytes, plain_encoding}
use Rattle.bits.specs.Groups.{group}
use Rattle.bits.specs.Lists.{at, tabulate, concat, part_of}
use Rattle.bits.specs.Nibbles.{packed}
use Rattle.bits.proofs.laws.Bytes.{length_bytes_of, at_bytes_of, bytes_of_bytes}
use Rattle.bits.proofs.laws.Encodings.{encode_lt, plain_permutation}
use Rattle.bits.proofs.laws.Groups.{joined_same, joined_group}
use Rattle.bits.proofs.laws.Images.{length_encoding_bytes, encoding_bytes_bytes, images_written}
use Rattle.bits.proofs.laws.Lists.{append_below, concat_below, length_concat, at_concat}
use Rattle.bits.proofs.laws.Offsets.{offset_mono, concat_length, concat_part, concat_row}
use Rattle.matrices.specs.Matrices.{identity, Square, matrix_of, matrix_bytes}
use Rattle.matrices.proofs.laws.Matrices.{identity_square}
use Rattle.matrices.proofs.laws.Stored.{length_matrix_bytes, matrix_bytes_bytes, matrix_of_bytes}
use Rattle.bundle.specs.Built.{bytes_before, built_offset, pair_bytes, part_bytes_of, section_bytes, bundle_of, plain_bundle}
use Rattle.bundle.specs.Built.{PlainBytes, Writable, Holds, Built, Building, PlainBuilt}
use Rattle.bundle.specs.Format.{encodings, byte_matrices, column_matrices, part_count, part_size, section_length, shortest, longest}
use Rattle.bundle.specs.Format.{offset, stated, end_before, PairRight, frame, section_of, part_at}
use Rattle.bundle.proofs.laws.Frame.{longest_small, frame_accepted, section_is}
use Rattle.answers.specs.Answer.{Accepted}

-- ---- sizes
module _ (nr : ℕ) where
  all_sections : shortest nr ≡ built_offset nr 5
  unfolding shortest built_offset bytes_before
  all_sections = omega arith

  -- The first section starts at byte 40; section i ends where the next one starts, and within the bundle.
  begins : built_offset nr 0 ≡ 40
  unfolding built_offset bytes_before
  begins = refl

  ends : (i : ℕ) → built_offset nr (suc i) ≡ built_offset nr i + section_length nr i
  unfolding built_offset bytes_before
  ends i = omega arith

  inside : (i : ℕ) → i < 5 → built_offset nr i + section_length nr i ≤ built_offset nr 5
  unfolding built_offset bytes_before
  inside i h = omega (arith, offset_mono (section_length nr) (bytes_before nr) 5 (λ k l. refl) 5 i h (omega arith))

  pair_long : (i : ℕ) → length (pair_bytes nr i) ≡ 8
  unfolding pair_bytes
  pair_long i = length-append (bytes_of 4 _) (bytes_of 4 _) ∙ ap₂ (λ (x y : ℕ). x + y) (length_bytes_of 4 _) (length_bytes_of 4 _)

  pairs_long : length (concat 5 (pair_bytes nr)) ≡ 40
  pairs_long = length_concat 8 (pair_bytes nr) 5 (λ i h. pair_long i)

module _ (nr : ℕ) (E B C : ℕ → List ℕ) (I O : List ℕ) where
  abbrev l : List ℕ
  l = bundle_of nr E B C I O

  part_long : (s n : ℕ) → length (part_bytes_of nr E B C I O s n) ≡ part_size s
  unfolding part_bytes_of part_size
  part_long zero n = length_encoding_bytes _
  part_long (suc zero) n = length_matrix_bytes 1 _
  part_long (suc (suc zero)) n = length_matrix_bytes 4 _
  part_long (suc (suc (suc zero))) n = length_matrix_bytes 16 _
  part_long (suc (suc (suc (suc s)))) n = length_matrix_bytes 16 _

  section_long : (s : ℕ) → length (section_bytes nr E B C I O s) ≡ section_length nr s
  unfolding section_bytes section_length
  section_long s = length_concat (part_size s) (part_bytes_of nr E B C I O s) (part_count nr s) (λ n h. part_long s n)

  sections_long : length (concat 5 (section_bytes nr E B C I O)) ≡ bytes_before nr 5
  unfolding bytes_before
  sections_long =
      concat_length (section_bytes nr E B C I O) (section_length nr) (bytes_before nr) 5 refl (λ k h. refl) (λ k h. section_long k) 5 (omega arith)

  long : length l ≡ built_offset nr 5
  unfolding bundle_of built_offset
  long = length-append (concat 5 (pair_bytes nr)) (concat 5 (section_bytes nr E B C I O)) ∙ ap₂ (λ (x y : ℕ). x + y) (pairs_long nr) sections_long

  -- ---- the pairs, read off again
  in_pair : (i j : ℕ) → i < 5 → j < 8 → at l (8 * i + j) ≡ at (pair_bytes nr i) j
  unfolding bundle_of
  in_pair i j h k =
      let pairs = concat 5 (pair_bytes nr) in
      let place : 8 * i + j ≡ i * 8 + j = omega arith in
      get_or-append pairs (concat 5 (section_bytes nr E B C I O)) 0 (8 * i + j) (omega (arith, pairs_long nr))
      ∙ ap (at pairs) place
      ∙ at_concat 8 (pair_bytes nr) 5 (λ i h. pair_long nr i) i j h k

  module _ (fits : shortest nr ≤ longest nr) where
    small : (i : ℕ) → i < 5 → built_offset nr i + section_length nr i ≤ longest nr
    small i h = omega (arith, inside nr i h, all_sections nr, fits)

    -- What a pair states fits in four bytes.
    in_word : longest nr < 4294967296
    in_word = omega (arith, longest_small nr)

    offset_is : (i : ℕ) → i < 5 → offset l i ≡ built_offset nr i
    unfolding number_at pair_bytes
    offset_is i h =
        let o = built_offset nr i in
        joined_same 8 4 _ _ (λ j k.
        in_pair i j h (omega arith)
        ∙ get_or-append (bytes_of 4 o) (bytes_of 4 (section_length nr i)) 0 j (omega (arith, length_bytes_of 4 o))
        ∙ at_bytes_of 4 o j k)
        ∙ joined_group 8 4 o (omega (arith, in_word, small i h))

    stated_is : (i : ℕ) → i < 5 → stated l i ≡ section_length nr i
    unfolding number_at pair_bytes
    stated_is i h =
        let o = bytes_of 4 (built_offset nr i) in
        let n = section_length nr i in
        joined_same 8 4 _ _ (λ j k.
        let place : 8 * i + 4 + j ≡ 8 * i + (4 + j) = omega arith in
        let behind : 4 + j ≡ length o + j = omega (arith, length_bytes_of 4 (built_offset nr i)) in
        ap (at l) place
        ∙ in_pair i (4 + j) h (omega arith)
        ∙ ap (at (o ++ bytes_of 4 n)) behind
        ∙ get_or-append-add o (bytes_of 4 n) j 0
        ∙ at_bytes_of 4 n j k)
        ∙ joined_group 8 4 n (omega (arith, in_word, small i h))

    -- ---- the frame: every pair is right
    starts : (i : ℕ) → i < 5 → end_before l i ≤ offset l i
    unfolding end_before
    starts zero h = omega (arith, offset_is 0 h, begins nr)
    starts (suc i) h = omega (arith, offset_is (suc i) h, ends nr i, offset_is i (omega arith), stated_is i (omega arith))

    right : (i : ℕ) → i < 5 → PairRight nr l i
    right i h = record {
      long = stated_is i h;
      behind = starts i h;
      within = omega (arith, offset_is i h, stated_is i h, inside nr i h, long);
    }

    accepted : frame nr l ≡ Accepted
    accepted = frame_accepted nr l (record {
      range = record { low = omega (arith, long, all_sections nr); high = omega (arith, long, all_sections nr, fits) };
      pairs = right;
    })

    -- ---- the parts by number
    section_built : (s : ℕ) → s < 5 → section_of nr l s ≡ section_bytes nr E B C I O s
    unfolding bundle_of built_offset bytes_before
    section_built s h =
        let sections = concat 5 (section_bytes nr E B C I O) in
        section_is nr l accepted s
        ∙ ap (λ (a : ℕ). take (section_length nr s) (drop a l)) (offset_is s h)
        ∙ ap (take (section_length nr s)) (sym (drop-drop (bytes_before nr s) 40 l))
        ∙ ap (λ (t : List ℕ). take (section_length nr s) (drop (bytes_before nr s) t)) (drop_at (concat 5 (pair_bytes nr)) sections 40 (pairs_long nr))
        ∙ concat_part (section_bytes nr E B C I O) (section_length nr) (bytes_before nr) 5 refl (λ k g. refl) (λ k g. section_long k) 5 s h (omega arith)

    part_built : (s n : ℕ) → s < 5 → n < part_count nr s → part_at nr l s n ≡ part_bytes_of nr E B C I O s n
    unfolding part_at part_of section_bytes
    part_built s n h k =
        ap (λ (t : List ℕ). take (part_size s) (drop (n * part_size s) t)) (section_built s h)
        ∙ concat_row (part_size s) (part_bytes_of nr E B C I O s) (part_count nr s) (λ i g. part_long s i) n k

    module _ (w : Writable nr E B C I O) where
      part_bytes : (s n : ℕ) → n < part_count nr s → Bytes (part_bytes_of nr E B C I O s n)
      unfolding part_bytes_of part_count
      part_bytes zero n h = encoding_bytes_bytes (E n) (w.lists n h).below
      part_bytes (suc zero) n h = matrix_bytes_bytes 1 _
      part_bytes (suc (suc zero)) n h = matrix_bytes_bytes 4 _
      part_bytes (suc (suc (suc zero))) n h = matrix_bytes_bytes 16 _
      part_bytes (suc (suc (suc (suc s)))) n h = matrix_bytes_bytes 16 _

      all_bytes : Bytes l
      unfolding bundle_of section_bytes pair_bytes
      all_bytes =
          append_below 256 (concat 5 (pair_bytes nr)) (concat 5 (section_bytes nr E B C I O))
          (concat_below 256 5 (pair_bytes nr) (lit< tt) (λ i h.
          append_below 256 (bytes_of 4 _) (bytes_of 4 _) (bytes_of_bytes 4 _) (bytes_of_bytes 4 _)))
          (concat_below 256 5 (section_bytes nr E B C I O) (lit< tt) (λ s h.
          concat_below 256 (part_count nr s) (part_bytes_of nr E B C I O s) (lit< tt) (λ n k. part_bytes s n k)))

      square : (v : ℕ) (m p : List ℕ) → Square (8 * v) m → p ≡ matrix_bytes v m → matrix_of v p ≡ m
      square v m p S e = ap (matrix_of v) e ∙ matrix_of_bytes v m S.long S.fits

      holds : Holds nr E B C I O l
      unfolding part_bytes_of part_count
      holds = record {
        lists = λ n h.
            ap images_of (part_built 0 n (omega arith) h) ∙ images_written (E n) (w.lists n h).below (w.lists n h).long;
        bytes = λ n h. square 1 (B n) _ (w.bytes n h) (part_built 1 n (omega arith) h);
        columns = λ n h. square 4 (C n) _ (w.columns n h) (part_built 2 n (omega arith) h);
        input = square 16 I _ w.input (part_built 3 0 (omega arith) (omega arith));
        output = square 16 O _ w.output (part_built 4 0 (omega arith) (omega arith));
      }

pub building : Building
building nr E B C I O fits w = record {
  all_bytes = all_bytes nr E B C I O fits w;
  long = long nr E B C I O ∙ sym (all_sections nr);
  framed = accepted nr E B C I O fits;
  holds = holds nr E B C I O fits w;
}

-- ---- a bundle that is plain but for its byte and column matrices, and the plain bundle
module _ (nr : ℕ) (B C : ℕ → List ℕ) (byte-squares : (n : ℕ) → Square 8 (B n)) (column-squares : (n : ℕ) → Square 32 (C n)) where
  pub but_writable : Writable nr (λ n. plain_encoding) B C (identity 128) (identity 128)
  but_writable = record {
    lists = λ n h. record { long = plain_permutation.long; below = encode_lt plain_permutation };
    bytes = λ n h. byte-squares n;
    columns = λ n h. column-squares n;
    input = identity_square 128;
    output = identity_square 128;
  }

  pub but_built : shortest nr ≤ longest nr → Built nr (λ n. plain_encoding) B C (identity 128) (identity 128)
  but_built fits = building nr _ _ _ _ _ fits but_writable

plain_whole : (nr : ℕ) → shortest nr ≤ longest nr → Built nr (λ n. plain_encoding) (λ n. identity 8) (λ n. identity 32) (identity 128) (identity 128)
plain_whole nr = but_built nr _ _ (λ n. identity_square 8) (λ n. identity_square 32)

pub plain_built : PlainBuilt
unfolding plain_bundle
plain_built nr fits = let built = plain_whole nr fits in (built.all_bytes, built.holds)

pub plain_frame : (nr : ℕ) → shortest nr ≤ longest nr → frame nr (plain_bundle nr) ≡ Accepted
unfolding plain_bundle
plain_frame nr fits = (plain_whole nr fits).framed

pub plain_bytes : PlainBytes
plain_bytes = record {
  pairs =
      unfold concat tabulate bytes_of group pair_bytes built_offset bytes_before section_length part_count part_size encodings byte_matrices column_matrices in refl;
  list = unfold encoding_bytes packed tabulate plain_encoding in refl;
  byte_matrix_lem = unfold matrix_bytes identity concat tabulate bytes_of group in refl;
}
