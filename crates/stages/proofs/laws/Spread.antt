-- Laws, not definitions: a spread table from the bytes, the words and the images that the code gathers.
-- Assumes nothing.
use mathlib.Core.List.{List, ◌++◌}
use mathlib.Core.Path.{◌≡◌, refl, sym, ap, ap₂, ◌∙◌, subst}
use Prim.Native.Nat.{ℕ, zero, suc, ◌+◌, ◌-◌, ◌*◌, ◌/◌, ◌%◌, ◌^◌, ◌≤◌, ◌<◌}
use native.Mathlib.Nat.{div-add-mod', div-lt_iff_lt-mul, mod-lt}
use native.Mathlib.Omega.{arith}
use lib.ListN.{length, take}
use lib.Seq.{get_or-take, take_at}
use Rattle.bits.specs.Bytes.{Bytes, number, byte, bytes_of, placed}
use Rattle.bits.specs.Encodings.{decode}
use Rattle.bits.specs.Lists.{at, tabulate, concat}
use Rattle.bits.specs.Nibbles.{pack, nibble, packed}
use Rattle.bits.proofs.laws.Bytes.{bytes_of_number_of, number_of_bytes_of, length_bytes_of}
use Rattle.bits.proofs.laws.Encodings.{decode_lt}
use Rattle.bits.proofs.laws.Groups.{joined_same}
use Rattle.bits.proofs.laws.Lists.{at_tabulate, length_tabulate, ext_at, length_concat, at_concat, concat_same}
use Rattle.bits.proofs.laws.Nibbles.{length_packed, at_packed, packed_ext, nibble_lt}
use Rattle.bits.proofs.laws.Images.{images_long}
use Rattle.matrices.specs.ByNibbles.{combined}
use Rattle.matrices.specs.Matrices.{product}
use Rattle.matrices.specs.Rows.{row_at, stored}
use Rattle.matrices.proofs.laws.Matrices.{product_lt}
use Rattle.matrices.proofs.laws.Rows.{row_stored}
use Rattle.inversion.specs.Elimination.{inverse_of}
use Rattle.field.specs.Field.{mul}
use Rattle.field.proofs.laws.OnBytes.{OnBytes}
use Rattle.bundle.specs.Format.{encodings, encoding_of, part_size, section_of, part_at}
use Rattle.judgement.specs.Judge.{judge}
use Rattle.judgement.proofs.laws.Judgements.{accepted_sound}
use Rattle.network.specs.Numbers.{encoding_number}
use Rattle.network.specs.Tables.{spread_entry, spread_table}
use Rattle.network.proofs.laws.Order.{at_div, at_mod}
use Rattle.layout.specs.Stages.{width_of, source_of, first_number, after_round, standing_number, numbers_of, InRounds}
use Rattle.layout.specs.declared.stage.Stage.{Stage}
use Rattle.layout.specs.declared.stage.Stage.TheVariants.{Entry, First, Second, Exit, Beyond}
use Rattle.layout.proofs.laws.Place.{source_lt}
use Rattle.whitebox.specs.Bundles.{codings_of}
use Rattle.whitebox.specs.Codings.{Codings, byte_matrix_at, column_matrix_at}
use Rattle.whitebox.specs.Parts.{Parts, Fine}
use Rattle.whitebox.specs.Tables.{word_of, layer_of}
use Rattle.whitebox.specs.Words.{entry_word, mixed_word, second_word_of, placed_word, substituted}
use Rattle.whitebox.proofs.laws.Bundles.{encoding_is}
use Rattle.whitebox.proofs.laws.States.{substituted_lt}
use Rattle.whitebox.proofs.laws.Values.{entry_bytes, mixed_word_bytes, second_bytes, placed_word_bytes}
use Rattle.encodings.specs.Encodings.{encoding_in}
use Rattle.spread_tables.specs.Spread.{encoded_bytes, encoded_word}
use Rattle.substitution.proofs.laws.Linear.{by_powers, spread_xor, mixed_xor, exit_xor}
use Rattle.stages.specs.Spread.{acted, linear_word, word_number, read_byte}
use Rattle.answers.specs.Answer.{Accepted}

-- ---- 256 words of m bytes, one after the other
module _ (m : ℕ) (f : ℕ → ℕ → ℕ) (pos : 0 < m) where
  -- nibble z of them all is nibble k of word x
  nibble_of_word : (z x k : ℕ) → z ≡ x * (2 * m) + k → k < 2 * m → f (z / (2 * m)) (z % (2 * m)) ≡ f x k
  nibble_of_word z x k e h = rw e (ap₂ f (at_div (2 * m) x k h) (at_mod (2 * m) x k h))

  twice : (i x j : ℕ) → x * m + j ≡ i → 2 * i ≡ x * (2 * m) + 2 * j
  twice i x j e = omega arith

  byte_of_word : (i : ℕ) → i < 256 * m
      → pack (f (2 * i / (2 * m)) (2 * i % (2 * m))) (f ((2 * i + 1) / (2 * m)) ((2 * i + 1) % (2 * m))) ≡ at (concat 256 (λ x. packed m (f x))) i
  byte_of_word i h =
      let x = i / m in
      let j = i % m in
      let split : x * m + j ≡ i = div-add-mod' i m in
      let small : j < m = mod-lt i pos in
      let few : x < 256 = (div-lt_iff_lt-mul pos).1 h in
      let even : 2 * i ≡ x * (2 * m) + 2 * j = twice i x j split in
      let odd : 2 * i + 1 ≡ x * (2 * m) + (2 * j + 1) = omega arith in
      ap₂ pack (nibble_of_word (2 * i) x (2 * j) even (omega arith)) (nibble_of_word (2 * i + 1) x (2 * j + 1) odd (omega arith))
      ∙ sym (at_packed m (f x) j small)
      ∙ sym (at_concat m (λ x. packed m (f x)) 256 (λ k g. length_packed m (f k)) x j few small)
      ∙ ap (at (concat 256 (λ x. packed m (f x)))) split

  packed_words : packed (256 * m) (λ q. f (q / (2 * m)) (q % (2 * m))) ≡ concat 256 (λ x. packed m (f x))
  packed_words =
      let nibbles : ℕ → ℕ = λ q. f (q / (2 * m)) (q % (2 * m)) in
      let words : ℕ → List ℕ = λ x. packed m (f x) in
      ext_at (256 * m) _ _ (length_packed (256 * m) nibbles) (length_concat m words 256 (λ k g. length_packed m (f k)))
      (λ i h. at_packed (256 * m) nibbles i h ∙ byte_of_word i h)

-- ---- the images of d encodings, from number n on, in the front of a list
pub images_front : (section images rest : List ℕ) (n d : ℕ) → images ≡ concat d (λ h. encoding_in section (n + h)) ++ rest
    → take (d * 16) images ≡ concat d (λ h. encoding_in section (n + h))
images_front section images rest n d e =
    ap (take (d * 16)) e ∙ take_at _ rest (d * 16) (length_concat 16 (λ h. encoding_in section (n + h)) d (λ k g. images_long _))

-- ---- the words by stage, as numbers
module _ (P : Parts) (C : Codings) (p y : ℕ) where
  pub entry_form : number 16 (λ j. product 8 (byte_matrix_at C 1 j) (byte 16 j (product 128 (inverse_of 128 C.input_matrix) (placed 16 p y)))) ≡ word_number P C Entry p y
  unfolding word_number entry_word
  entry_form = joined_same 8 16 _ _ (λ j h. sym (at_tabulate 16 _ j h))

  pub second_form : (r : ℕ)
      → number 4 (λ t. product 8 (byte_matrix_at C (suc r) (4 * (p / 4) + t)) (byte 4 t (product 32 (inverse_of 32 (column_matrix_at C r (p / 4))) (placed 4 (p % 4) y))))
      ≡ word_number P C (Second r) p y
  unfolding word_number second_word_of
  second_form r = joined_same 8 4 _ _ (λ j h. sym (at_tabulate 4 _ j h))

  pub first_form : (r : ℕ) → product 32 (column_matrix_at C r (p / 4)) (number 4 (λ t. mul (P.coefficient t (p % 4)) y)) ≡ word_number P C (First r) p y
  unfolding word_number mixed_word
  first_form r = sym (number_of_bytes_of 4 _ (product_lt 32 _ _))

  pub exit_form : product 128 C.output_matrix (placed 16 p y) ≡ word_number P C Exit p y
  unfolding word_number placed_word
  exit_form = sym (number_of_bytes_of 16 _ (product_lt 128 _ _))

on_bytes : (f g : ℕ → ℕ) → ((y : ℕ) → f y ≡ g y) → OnBytes f → OnBytes g
on_bytes f g e lin x y h k = sym (e _) ∙ lin x y h k ∙ ap₂ lib.Bits.bit_xor (e x) (e y)

module _ (P : Parts) (fine : Fine P) (C : Codings) (nr p : ℕ) where
  word_linear : (s : Stage) → InRounds nr s → OnBytes (word_number P C s p)
  word_linear Entry h = on_bytes _ _ (λ y. entry_form P C p y) (spread_xor 16 128 p (inverse_of 128 C.input_matrix) (byte_matrix_at C 1))
  word_linear (First r) h =
      on_bytes _ _ (λ y. first_form P C p y r) (mixed_xor (column_matrix_at C r (p / 4)) (λ t. P.coefficient t (p % 4)) (λ t g. fine.coefficient_lt t (p % 4)))
  word_linear (Second r) h =
      on_bytes _ _ (λ y. second_form P C p y r) (spread_xor 4 32 (p % 4) (inverse_of 32 (column_matrix_at C r (p / 4))) (λ t. byte_matrix_at C (suc r) (4 * (p / 4) + t)))
  word_linear Exit h = on_bytes _ _ (λ y. exit_form P C p y) (exit_xor C.output_matrix p)
  word_linear Beyond h = absurd h

  word_bytes : (s : Stage) → InRounds nr s → (y : ℕ) → Bytes (linear_word P C s p y) × (bytes_of (width_of s) (word_number P C s p y) ≡ linear_word P C s p y)
  unfolding word_number entry_word mixed_word second_word_of placed_word
  word_bytes Entry h y = let b = entry_bytes P C p y in (b, bytes_of_number_of 16 _ (length_tabulate 16 _) b)
  word_bytes (First r) h y = let b = mixed_word_bytes P C r p y in (b, bytes_of_number_of 4 _ (length_bytes_of 4 _) b)
  word_bytes (Second r) h y = let b = second_bytes P C r p y in (b, bytes_of_number_of 4 _ (length_tabulate 4 _) b)
  word_bytes Exit h y = let b = placed_word_bytes P C p y in (b, bytes_of_number_of 16 _ (length_bytes_of 16 _) b)
  word_bytes Beyond h y = absurd h

  acted_lt : (s : Stage) → InRounds nr s → (x : ℕ) → x < 256 → acted P C nr s p x < 256
  unfolding substituted
  acted_lt Entry h x k = k
  acted_lt (First r) h x k = substituted_lt P fine _ r (P.reads p) p (product_lt 8 _ _)
  acted_lt (Second r) h x k = k
  acted_lt Exit h x k = substituted_lt P fine _ nr (P.reads p) p (product_lt 8 _ _)
  acted_lt Beyond h x k = k

  word_is : (s : Stage) (x : ℕ) → linear_word P C s p (acted P C nr s p x) ≡ word_of P C nr s p x
  word_is Entry x = refl
  word_is (First r) x = refl
  word_is (Second r) x = refl
  word_is Exit x = refl
  word_is Beyond x = refl

-- ---- numbers in range, for a stage of nr rounds
after_lt : (nr r q : ℕ) → r < nr → q < 32 → after_round r q < encodings nr
unfolding encoding_number encodings
after_lt nr zero q h k = omega arith
after_lt nr (suc r) q h k = omega arith

standing_lt : (nr : ℕ) (s : Stage) (q : ℕ) → InRounds nr s → q < 32 → standing_number nr s q < encodings nr
unfolding encoding_number encodings
standing_lt nr Entry q h k = omega arith
standing_lt nr (First r) q h k = after_lt nr (r - 1) q (omega arith) k
standing_lt nr (Second r) q h k = omega arith
standing_lt nr Exit q h k = after_lt nr (nr - 1) q (omega arith) k
standing_lt nr Beyond q h k = absurd h

own_lt : (nr : ℕ) (s : Stage) (p h : ℕ) → InRounds nr s → p < 16 → h < 2 * width_of s → first_number nr s + p * (2 * width_of s) + h < encodings nr
unfolding encodings
own_lt nr Entry p h a c d = omega arith
own_lt nr (First r) p h a c d = omega arith
own_lt nr (Second r) p h a c d = omega arith
own_lt nr Exit p h a c d = omega arith
own_lt nr Beyond p h a c d = absurd a

wide : (nr : ℕ) (s : Stage) → InRounds nr s → 0 < width_of s
wide nr Entry h = omega arith
wide nr (First r) h = omega arith
wide nr (Second r) h = omega arith
wide nr Exit h = omega arith
wide nr Beyond h = absurd h

-- ---- the table, of a cipher of the parts P and nr rounds
module _ (P : Parts) (fine : Fine P) (nr : ℕ) (l : List ℕ) (bytes : Bytes l) (accepted : judge nr l ≡ Accepted)
    (s : Stage) (round : InRounds nr s) (p : ℕ) (hp : p < 16) where
  abbrev C : Codings
  C = codings_of nr l

  read_lt : (x : ℕ) → x < 256 → read_byte nr P.reads l s p x < 256
  unfolding read_byte
  read_lt x h =
      let j = source_of P.reads s p in
      let small = source_lt P.reads fine.reads_lt s p hp in
      let S = accepted_sound nr l bytes accepted in
      let a = decode_lt _ (S.lists (standing_number nr s (2 * j)) (standing_lt nr s (2 * j) round (omega arith))) (x / 16) (omega arith) in
      let b = decode_lt _ (S.lists (standing_number nr s (2 * j + 1)) (standing_lt nr s (2 * j + 1) round (omega arith))) (x % 16) (omega arith) in
      omega arith

  entry_is : (images : List ℕ) (v x h : ℕ) → x < 256 → h < 2 * width_of s
      → take (2 * width_of s * 16) images ≡ concat (2 * width_of s) (λ k. encoding_of nr l (first_number nr s + p * (2 * width_of s) + k))
      → v ≡ word_number P C s p (acted P C nr s p (read_byte nr P.reads l s p x))
      → at images (16 * h + nibble (bytes_of (width_of s) v) h) ≡ spread_entry C.encoding (layer_of P C nr s) (numbers_of nr s) p x h
  unfolding spread_entry numbers_of encoding_number read_byte
  entry_is images v x h hx hh e f =
      let m = width_of s in
      let B = word_bytes P fine C nr p s round (acted P C nr s p (read_byte nr P.reads l s p x)) in
      let word = ap (bytes_of m) f ∙ B.1 in
      let u = nibble (bytes_of m v) h in
      let hu : u < 16 = subst (λ (t : List ℕ). nibble t h < 16) (sym word) (nibble_lt _ B.0 h) in
      let j = source_of P.reads s p in
      let small = source_lt P.reads fine.reads_lt s p hp in
      let a = encoding_is nr l (standing_number nr s (2 * j)) (standing_lt nr s (2 * j) round (omega arith)) in
      let b = encoding_is nr l (standing_number nr s (2 * j + 1)) (standing_lt nr s (2 * j + 1) round (omega arith)) in
      let read = sym (ap₂ (λ (c d : List ℕ). pack (decode c (x / 16)) (decode d (x % 16))) a b) in
      let i : 16 * h + u ≡ h * 16 + u = omega arith in
      ap (at images) i
      ∙ sym (get_or-take (2 * m * 16) images (h * 16 + u) 0 (omega arith))
      ∙ ap (λ (t : List ℕ). at t (h * 16 + u)) e
      ∙ at_concat 16 (λ k. encoding_of nr l (first_number nr s + p * (2 * m) + k)) (2 * m) (λ k g. images_long _) h u hh hu
      ∙ ap₂ at (sym (encoding_is nr l (first_number nr s + p * (2 * m) + h) (own_lt nr s p h round hp hh)))
      (ap (λ (t : List ℕ). nibble t h) (word ∙ word_is P fine C nr p s (read_byte nr P.reads l s p x) ∙ ap (word_of P C nr s p) read))

  spread_is : (values images dst : List ℕ) (f : ℕ → ℕ) → dst ≡ concat 256 (λ x. encoded_word (at images) (width_of s) (combined f (at values x)))
      → values ≡ tabulate 256 (λ x. acted P C nr s p (read_byte nr P.reads l s p x))
      → ((k : ℕ) → k < 8 → f k ≡ word_number P C s p (2 ^ k))
      → take (2 * width_of s * 16) images ≡ concat (2 * width_of s) (λ k. encoding_of nr l (first_number nr s + p * (2 * width_of s) + k))
      → dst ≡ spread_table C.encoding (layer_of P C nr s) (numbers_of nr s) p
  unfolding encoded_bytes spread_table
  spread_is values images dst f d v b i =
      let lin = word_linear P fine C nr p s round in
      d
      ∙ concat_same 256 _ _ (λ x hx.
      packed_ext (width_of s) _ _ (λ h hh.
      entry_is images (combined f (at values x)) x h hx hh i
      (ap (combined f) (ap (λ (t : List ℕ). at t x) v ∙ at_tabulate 256 _ x hx)
      ∙ by_powers (word_number P C s p) f lin b _ (acted_lt P fine C nr p s round _ (read_lt x hx)))))
      ∙ sym (packed_words (width_of s) (spread_entry C.encoding (layer_of P C nr s) (numbers_of nr s) p) (wide nr s round))

  -- The same from what the code has: the width m, the first number, the section of encodings, and each list as the call that fills it leaves it.
  pub spread_made : (m first : ℕ) (reads : ℕ → ℕ) (section values basis old images rest dst : List ℕ)
      → P.reads ≡ reads
      → m ≡ width_of s
      → first ≡ first_number nr s
      → section ≡ section_of nr l 0
      → 16 ≤ length old
      → values ≡ tabulate 256 (λ x. acted P C nr s p (read_byte nr reads l s p x))
      → basis ≡ stored 8 (λ k. word_number P C s p (2 ^ k)) old
      → images ≡ concat (2 * m) (λ h. encoding_in section (first + p * (2 * m) + h)) ++ rest
      → dst ≡ concat 256 (λ x. encoded_word (at images) m (combined (row_at basis) (at values x)))
      → dst ≡ spread_table C.encoding (layer_of P C nr s) (numbers_of nr s) p
  unfolding part_at part_size
  spread_made m first reads section values basis old images rest dst same width number sect long val bas img written =
      spread_is values images dst (row_at basis) (rw width at written) (rw (sym same) at val)
      (λ k h. ap (λ (t : List ℕ). row_at t k) bas ∙ row_stored 8 _ old long k h)
      (rw (width, number, sect) at (images_front section images rest (first + p * (2 * m)) (2 * m) img))
