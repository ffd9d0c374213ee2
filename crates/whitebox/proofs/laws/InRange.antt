-- Laws, not definitions: no table uses an encoding or a matrix whose number is out of range.
-- Assumes nothing.
use mathlib.Core.Bool.{cond}
use mathlib.Core.List.{List, [], ◌∷◌, ◌++◌, map}
use mathlib.Core.Path.{◌≡◌, refl, ap, ap₂, ◌∙◌}
use Prim.Native.Nat.{ℕ, zero, suc, ◌+◌, ◌-◌, ◌*◌, ◌/◌, ◌%◌, ◌≤◌, ◌<◌}
use native.Mathlib.Decide.{dec_lt}
use native.Mathlib.Omega.{arith}
use borrow.Author.Tests.{lt-ltb, le-ltb}
use lib.Bits.{bit_xor}
use lib.Dec.{ltb}
use Rattle.bits.specs.Bytes.{number, byte, bytes_of, placed}
use Rattle.bits.specs.Encodings.{encode, decode}
use Rattle.bits.specs.Nibbles.{pack, nibble}
use Rattle.bits.proofs.laws.Lists.{concat_same, tabulate_ext}
use Rattle.bits.proofs.laws.Nibbles.{packed_ext}
use Rattle.matrices.specs.Matrices.{product}
use Rattle.inversion.specs.Elimination.{inverse_of}
use Rattle.field.specs.Field.{mul}
use Rattle.bundle.specs.Format.{byte_matrices, column_matrices}
use Rattle.network.specs.Numbers.{Numbers, start_numbers, next_numbers, encoding_number}
use Rattle.network.specs.Order.{layer_lookups}
use Rattle.network.specs.Tables.{Layer, spread_entry, spread_table, table_in, table_at}
use Rattle.network.proofs.laws.InRange.{in_range}
use Rattle.layout.specs.Stages.{stages, rounds, width_of, lookups}
use Rattle.layout.specs.declared.stage.Stage.{Stage}
use Rattle.layout.specs.declared.stage.Stage.TheVariants.{Entry, First, Second, Exit}
use Rattle.whitebox.specs.Codings.{Codings, byte_matrix_at, column_matrix_at}
use Rattle.whitebox.specs.InRange.{AgreeInRange, OnlyInRange}
use Rattle.whitebox.specs.Parts.{Parts, Fine}
use Rattle.whitebox.specs.Tables.{word_of, layer_of, layers, table_of, tables_of}
use Rattle.whitebox.specs.Words.{substituted, entry_word, mixed_word, second_word_of, placed_word}
use Rattle.whitebox.proofs.laws.Bundles.{encodings_agree}
use Rattle.whitebox.proofs.laws.Set.{widths_are, set_same}
use Rattle.whitebox.proofs.laws.Values.{layers_good}

-- ---- layers that make the same words at the 16 positions have the same tables
module _ (E : ℕ → List ℕ) (L L' : Layer) (width : L.width ≡ L'.width) (source : (p : ℕ) → L.source p ≡ L'.source p)
    (words : (p x : ℕ) → p < 16 → L.word p x ≡ L'.word p x) where
  entry_same : (N : Numbers) (p x h : ℕ) → p < 16 → spread_entry E L N p x h ≡ spread_entry E L' N p x h
  unfolding spread_entry
  entry_same N p x h b =
      let read : ℕ → ℕ = λ s. pack (decode (E (N.standing (2 * s))) (x / 16)) (decode (E (N.standing (2 * s + 1))) (x % 16)) in
      ap₂ (λ (m s : ℕ). encode (E (encoding_number m N.first p 0 h)) (nibble (L.word p (read s)) h)) width (source p)
      ∙ ap (λ (l : List ℕ). encode (E (encoding_number L'.width N.first p 0 h)) (nibble l h)) (words p _ b)

  spread_same : (N : Numbers) (p : ℕ) → p < 16 → spread_table E L N p ≡ spread_table E L' N p
  unfolding spread_table
  spread_same N p b =
      packed_ext (256 * L.width) _ (λ q. spread_entry E L' N p (q / (2 * L.width)) (q % (2 * L.width))) (λ q h. entry_same N p _ _ b)
      ∙ ap (λ (m : ℕ). Rattle.bits.specs.Nibbles.packed (256 * m) (λ q. spread_entry E L' N p (q / (2 * m)) (q % (2 * m)))) width

  pub table_in_same : (N : Numbers) (j : ℕ) → table_in E L N j ≡ table_in E L' N j
  unfolding table_in
  table_in_same N j = go (dec_lt j 16)
    where
      go : Dec (j < 16)
          → cond (ltb j 16) (spread_table E L N j) (Rattle.network.specs.Tables.xor_table E L.width N.first (j - 16))
          ≡ cond (ltb j 16) (spread_table E L' N j) (Rattle.network.specs.Tables.xor_table E L'.width N.first (j - 16))
      go (yes b) = rw (lt-ltb j 16 b) (spread_same N j b)
      go (no b) = rw (le-ltb j 16 (omega arith)) (ap (λ (m : ℕ). Rattle.network.specs.Tables.xor_table E m N.first (j - 16)) width)

module _ (P : Parts) (fine : Fine P) (nr : ℕ) (some : 1 ≤ nr) (C C' : Codings) (agree : AgreeInRange nr C C') where
  -- ---- the matrices that words use
  byte_same : (r j : ℕ) → 1 ≤ r → r ≤ nr → j < 16 → byte_matrix_at C r j ≡ byte_matrix_at C' r j
  unfolding byte_matrices
  byte_same r j a b h = agree.bytes (16 * (r - 1) + j) (omega arith)

  column_same : (r c : ℕ) → 1 ≤ r → r < nr → c < 4 → column_matrix_at C r c ≡ column_matrix_at C' r c
  unfolding column_matrices
  column_same r c a b h = agree.columns (4 * (r - 1) + c) (omega arith)

  substituted_same : (r p x : ℕ) → 1 ≤ r → r ≤ nr → p < 16 → substituted P C r p x ≡ substituted P C' r p x
  unfolding substituted
  substituted_same r p x a b h =
      ap (λ (m : List ℕ). bit_xor (P.substitute (bit_xor (product 8 (inverse_of 8 m) x) (P.before r (P.reads p)))) (P.behind r p))
      (byte_same r (P.reads p) a b (fine.reads_lt p h))

  entry_word_lem : (p x : ℕ) → entry_word P C p x ≡ entry_word P C' p x
  unfolding entry_word
  entry_word_lem p x =
      tabulate_ext 16 _ _ (λ j h.
      ap₂ (λ (m n : List ℕ). product 8 m (byte 16 j (product 128 (inverse_of 128 n) (placed 16 p x)))) (byte_same 1 j (omega arith) some h) agree.input)

  mixed_word_lem : (r p y : ℕ) → 1 ≤ r → r < nr → p < 16 → mixed_word P C r p y ≡ mixed_word P C' r p y
  unfolding mixed_word
  mixed_word_lem r p y a b h =
      ap (λ (m : List ℕ). bytes_of 4 (product 32 m (number 4 (λ t. mul (P.coefficient t (p % 4)) y)))) (column_same r (p / 4) a b (omega arith))

  second_word : (r p x : ℕ) → 1 ≤ r → r < nr → p < 16 → second_word_of P C r p x ≡ second_word_of P C' r p x
  unfolding second_word_of
  second_word r p x a b h =
      tabulate_ext 4 _ _ (λ t l.
      ap₂ (λ (m n : List ℕ). product 8 m (byte 4 t (product 32 (inverse_of 32 n) (placed 4 (p % 4) x)))) (byte_same (suc r) (4 * (p / 4) + t) (omega arith) b (omega arith))
      (column_same r (p / 4) a b (omega arith)))

  placed_word_lem : (p y : ℕ) → placed_word P C p y ≡ placed_word P C' p y
  unfolding placed_word
  placed_word_lem p y = ap (λ (m : List ℕ). bytes_of 16 (product 128 m (placed 16 p y))) agree.output

  exit_word : (p x : ℕ) → p < 16 → word_of P C nr Exit p x ≡ word_of P C' nr Exit p x
  exit_word p x h = placed_word_lem p _ ∙ ap (placed_word P C' p) (substituted_same nr p x some (omega arith) h)

  first_word : (r p x : ℕ) → 1 ≤ r → r < nr → p < 16 → word_of P C nr (First r) p x ≡ word_of P C' nr (First r) p x
  first_word r p x a b h = mixed_word_lem r p _ a b h ∙ ap (mixed_word P C' r p) (substituted_same r p x a (omega arith) h)

  -- ---- the tables
  module _ (E : ℕ → List ℕ) where
    one_more : (s : Stage) (Ls Ls' : List Layer) → ((p x : ℕ) → p < 16 → word_of P C nr s p x ≡ word_of P C' nr s p x)
        → ((N : Numbers) (k : ℕ) → table_at E Ls N k ≡ table_at E Ls' N k)
        → (N : Numbers) (k : ℕ) → table_at E (layer_of P C nr s ∷ Ls) N k ≡ table_at E (layer_of P C' nr s ∷ Ls') N k
    unfolding table_at
    one_more s Ls Ls' words rest N k =
        ap₂ (cond (ltb k (layer_lookups (width_of s))))
        (table_in_same E (layer_of P C nr s) (layer_of P C' nr s) refl (λ p. refl) (λ p x h. words p x h) N k)
        (rest (next_numbers (width_of s) N) (k - layer_lookups (width_of s)))

    rounds_same : (n r : ℕ) → 1 ≤ r → r + n ≤ nr → (N : Numbers) (k : ℕ)
        → table_at E (map (layer_of P C nr) (rounds r n ++ (Exit ∷ []))) N k ≡ table_at E (map (layer_of P C' nr) (rounds r n ++ (Exit ∷ []))) N k
    unfolding rounds
    rounds_same zero r a b = one_more Exit [] [] exit_word (λ N k. refl)
    rounds_same (suc n) r a b =
        one_more (First r) _ _ (λ p x h. first_word r p x a (omega arith) h)
        (one_more (Second r) _ _ (λ p x h. second_word r p x a (omega arith) h) (rounds_same n (suc r) (omega arith) (omega arith)))

    layers_same : (k : ℕ) → table_at E (layers P C nr) start_numbers k ≡ table_at E (layers P C' nr) start_numbers k
    unfolding layers stages
    layers_same k = one_more Entry _ _ (λ p x h. entry_word_lem p x) (rounds_same (nr - 1) 1 (omega arith) (omega arith)) start_numbers k

  tables_same : (k : ℕ) → table_of P C nr k ≡ table_of P C' nr k
  unfolding table_of Rattle.layout.specs.Stages.encodings
  tables_same k =
      in_range C.encoding C'.encoding (layers P C nr) (layers_good P fine C nr)
      (λ n h. agree.lists n (omega (arith, ap Rattle.network.specs.Sizes.results_in (widths_are P C nr), encodings_agree nr some))) k
      ∙ layers_same C'.encoding k

pub only_in_range : OnlyInRange
unfolding tables_of
only_in_range P fine nr some C C' agree = set_same P C nr C' (concat_same (lookups nr) _ _ (λ k h. tables_same P fine nr some C C' agree k))
