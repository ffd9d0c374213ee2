-- Laws, not definitions: each layer of a cipher that can be undone keeps distinct blocks apart. Matrices have inverses, the substitution keeps
-- bytes apart, each byte is read, and the column mixing keeps states apart.
-- Assumes nothing.
use mathlib.Core.List.{List, [], ◌∷◌, ◌++◌, map}
use mathlib.Core.Path.{◌≡◌, refl, sym, ap, ap₂, ◌∙◌}
use Prim.Native.Nat.{ℕ, zero, suc, ◌+◌, ◌-◌, ◌*◌, ◌/◌, ◌%◌, ◌^◌, ◌<◌}
use native.Mathlib.Omega.{arith}
use lib.Bits.{bit_xor, xor_lt}
use Rattle.bits.specs.Bytes.{Bytes, Block, number, byte}
use Rattle.bits.specs.Lists.{at, tabulate}
use Rattle.bits.proofs.laws.Bytes.{byte_lt}
use Rattle.bits.proofs.laws.Groups.{group_joined, joined_lt, joined_group, joined_same}
use Rattle.bits.proofs.laws.Lists.{at_tabulate, length_tabulate, tabulate_below, ext_at}
use Rattle.bits.proofs.laws.Xor.{xor_apart}
use Rattle.matrices.specs.Matrices.{product}
use Rattle.matrices.proofs.laws.Matrices.{product_lt}
use Rattle.inversion.specs.Elimination.{inverse_of}
use Rattle.inversion.proofs.laws.Inverses.{inverse_undoes}
use Rattle.external.specs.Coding.{multiply}
use Rattle.external.proofs.laws.Coding.{multiply_block, multiply_back}
use Rattle.network.specs.Due.{summed, values_in}
use Rattle.network.proofs.laws.Values.{summed_fits}
use Rattle.layout.specs.Stages.{rounds, stages}
use Rattle.layout.specs.declared.stage.Stage.TheVariants.{Entry, First, Second, Exit}
use Rattle.layout.proofs.laws.Stages.{good_16, good_4}
use Rattle.whitebox.specs.Codings.{Codings, GoodMatrix, Sound, byte_matrix_at, column_matrix_at}
use Rattle.whitebox.specs.Parts.{Parts, Fine}
use Rattle.whitebox.specs.States.{mixed}
use Rattle.whitebox.specs.Tables.{layer_of, layers}
use Rattle.whitebox.specs.Values.{under_bytes, under_columns}
use Rattle.whitebox.specs.Words.{substituted, mixed_word, second_word_of, placed_word}
use Rattle.whitebox.proofs.laws.States.{substituted_lt, mixed_bytes}
use Rattle.whitebox.proofs.laws.Words.{entry_next, first_next, second_next, exit_next}
use Rattle.sensitivity.proofs.laws.Turned.{Apart, AllApart}

-- ---- matrices
matrix_apart : (n : ℕ) (m : List ℕ) → GoodMatrix n m → (u v : ℕ) → u < 2 ^ n → v < 2 ^ n → product n m u ≡ product n m v → u ≡ v
matrix_apart n m g u v a b e =
    let U = inverse_undoes n m g.fits g.has in
    sym (U.left u a) ∙ ap (product n (inverse_of n m)) e ∙ U.left v b

-- the inverse, too
inverse_apart : (n : ℕ) (m : List ℕ) → GoodMatrix n m → (u v : ℕ) → u < 2 ^ n → v < 2 ^ n
    → product n (inverse_of n m) u ≡ product n (inverse_of n m) v → u ≡ v
inverse_apart n m g u v a b e =
    let U = inverse_undoes n m g.fits g.has in
    sym (U.right u a) ∙ ap (product n m) e ∙ U.right v b

multiply_apart : (m : List ℕ) → GoodMatrix 128 m → (a b : List ℕ) → Block a → Block b → multiply m a ≡ multiply m b → a ≡ b
multiply_apart m g a b p q e =
    let U = inverse_undoes 128 m g.fits g.has in
    sym (multiply_back m (inverse_of 128 m) U.left a p) ∙ ap (multiply (inverse_of 128 m)) e ∙ multiply_back m (inverse_of 128 m) U.left b q

block_ext : (a b : List ℕ) → Block a → Block b → ((i : ℕ) → i < 16 → at a i ≡ at b i) → a ≡ b
block_ext a b p q e = ext_at 16 a b p.long q.long e

-- A cipher whose substitution, positions and column mixing can be undone.
pub record Undoable (P : Parts) : Type 0 where
  pub substitute_apart : (x y : ℕ) → x < 256 → y < 256 → P.substitute x ≡ P.substitute y → x ≡ y
  -- Each byte j is read, at this position.
  pub position : ℕ → ℕ
  pub position_lt : (j : ℕ) → j < 16 → position j < 16
  pub position_reads : (j : ℕ) → j < 16 → P.reads (position j) ≡ j
  pub mixed_apart : (s s' : List ℕ) → Block s → Block s' → mixed P s ≡ mixed P s' → s ≡ s'

-- ---- blocks by columns: column c is a number of 4 bytes
column : List ℕ → ℕ → ℕ
column s c = number 4 (λ t. at s (4 * c + t))

column_lt : (s : List ℕ) → Bytes s → (c : ℕ) → column s c < 2 ^ 32
unfolding column
column_lt s b c = joined_lt 8 4 (λ t. at s (4 * c + t)) (λ t h. b (4 * c + t))

columns_ext : (a b : List ℕ) → Block a → Block b → ((c : ℕ) → c < 4 → column a c ≡ column b c) → a ≡ b
unfolding column
columns_ext a b p q e =
    block_ext a b p q (λ i h.
    let z : 4 * (i / 4) + i % 4 ≡ i = omega arith in
    ap (at a) (sym z)
    ∙ sym (group_joined 8 4 (λ t. at a (4 * (i / 4) + t)) (λ t l. p.bytes (4 * (i / 4) + t)) (i % 4) (omega arith))
    ∙ ap (byte 4 (i % 4)) (e (i / 4) (omega arith))
    ∙ group_joined 8 4 (λ t. at b (4 * (i / 4) + t)) (λ t l. q.bytes (4 * (i / 4) + t)) (i % 4) (omega arith)
    ∙ ap (at b) z)

-- Each column c under the matrix m c.
by_columns : (ℕ → List ℕ) → List ℕ → List ℕ
by_columns m s = tabulate 16 (λ i. byte 4 (i % 4) (product 32 (m (i / 4)) (column s (i / 4))))

by_block : (m : ℕ → List ℕ) (s : List ℕ) → Block (by_columns m s)
unfolding by_columns
by_block m s = record { long = length_tabulate 16 _; bytes = tabulate_below 256 16 _ (omega arith) (λ i h. byte_lt 4 _ _) }

column_by : (m : ℕ → List ℕ) (s : List ℕ) (c : ℕ) → c < 4 → column (by_columns m s) c ≡ product 32 (m c) (column s c)
unfolding column by_columns
column_by m s c h =
    joined_same 8 4 _ (λ t. byte 4 t (product 32 (m c) (column s c))) (λ t l.
    at_tabulate 16 _ (4 * c + t) (omega arith)
    ∙ ap₂ (λ (x y : ℕ). byte 4 x (product 32 (m y) (column s y))) (let e : (4 * c + t) % 4 ≡ t = omega arith in e) (let e : (4 * c + t) / 4 ≡ c = omega arith in e))
    ∙ joined_group 8 4 _ (product_lt 32 (at (m c)) (column s c))

module _ (C : Codings) (sound : Sound C) where
  -- ---- byte matrices
  bytes_apart : (r : ℕ) (a b : List ℕ) → Block a → Block b → under_bytes C r a ≡ under_bytes C r b → a ≡ b
  unfolding under_bytes
  bytes_apart r a b p q e =
      block_ext a b p q (λ j h.
      matrix_apart 8 (byte_matrix_at C r j) (sound.bytes (16 * (r - 1) + j)) (at a j) (at b j) (p.bytes j) (q.bytes j)
      (sym (at_tabulate 16 _ j h) ∙ ap (λ (s : List ℕ). at s j) e ∙ at_tabulate 16 _ j h))

  -- ---- column matrices: they keep blocks apart, and each block stands under them
  under_is : (r : ℕ) (s : List ℕ) → under_columns C r s ≡ by_columns (column_matrix_at C r) s
  unfolding under_columns by_columns column
  under_is r s = refl

  columns_apart : (r : ℕ) (a b : List ℕ) → Block a → Block b → under_columns C r a ≡ under_columns C r b → a ≡ b
  columns_apart r a b p q e =
      columns_ext a b p q (λ c h.
      matrix_apart 32 (column_matrix_at C r c) (sound.columns (4 * (r - 1) + c)) (column a c) (column b c) (column_lt a p.bytes c) (column_lt b q.bytes c)
      (sym (column_by (column_matrix_at C r) a c h)
      ∙ ap (λ (s : List ℕ). column s c) (sym (under_is r a) ∙ e ∙ under_is r b)
      ∙ column_by (column_matrix_at C r) b c h))

  abbrev off_columns : ℕ → List ℕ → List ℕ
  off_columns r s = by_columns (λ c. inverse_of 32 (column_matrix_at C r c)) s

  off_block : (r : ℕ) (s : List ℕ) → Block (off_columns r s)
  off_block r s = by_block _ s

  under_off : (r : ℕ) (s : List ℕ) → Block s → under_columns C r (off_columns r s) ≡ s
  under_off r s b =
      under_is r (off_columns r s)
      ∙ columns_ext (by_columns (column_matrix_at C r) (off_columns r s)) s (by_block _ _) b (λ c h.
      let G = sound.columns (4 * (r - 1) + c) in
      column_by (column_matrix_at C r) (off_columns r s) c h
      ∙ ap (product 32 (column_matrix_at C r c)) (column_by (λ c. inverse_of 32 (column_matrix_at C r c)) s c h)
      ∙ (inverse_undoes 32 (column_matrix_at C r c) G.fits G.has).right (column s c) (column_lt s b.bytes c))

  module _ (P : Parts) (fine : Fine P) (undo : Undoable P) (nr : ℕ) where
    -- ---- the bytes behind the substitution
    behind : ℕ → List ℕ → List ℕ
    behind r s = tabulate 16 (λ p. substituted P C r p (at s (P.reads p)))

    substituted_small : (r p x : ℕ) → substituted P C r p x < 256
    unfolding substituted
    substituted_small r p x = substituted_lt P fine _ r (P.reads p) p (product_lt 8 (at (inverse_of 8 (byte_matrix_at C r (P.reads p)))) x)

    behind_block : (r : ℕ) (s : List ℕ) → Block (behind r s)
    unfolding behind
    behind_block r s = record { long = length_tabulate 16 _; bytes = tabulate_below 256 16 _ (omega arith) (λ p h. substituted_small r p _) }

    behind_at : (r : ℕ) (s : List ℕ) (p : ℕ) → p < 16 → at (behind r s) p ≡ substituted P C r p (at s (P.reads p))
    unfolding behind
    behind_at r s p h = at_tabulate 16 _ p h

    substituted_apart : (r p x y : ℕ) → x < 256 → y < 256 → substituted P C r p x ≡ substituted P C r p y → x ≡ y
    unfolding substituted
    substituted_apart r p x y a b e =
        let j = P.reads p in
        let m = byte_matrix_at C r j in
        let u = product 8 (inverse_of 8 m) x in
        let v = product 8 (inverse_of 8 m) y in
        let ul : u < 256 = product_lt 8 (at (inverse_of 8 m)) x in
        let vl : v < 256 = product_lt 8 (at (inverse_of 8 m)) y in
        inverse_apart 8 m (sound.bytes (16 * (r - 1) + j)) x y a b
        (xor_apart u v (P.before r j)
        (undo.substitute_apart (bit_xor u (P.before r j)) (bit_xor v (P.before r j))
        (xor_lt 8 u (P.before r j) ul (fine.before_lt r j)) (xor_lt 8 v (P.before r j) vl (fine.before_lt r j))
        (xor_apart _ _ (P.behind r p) e)))

    behind_apart : (r : ℕ) (a b : List ℕ) → Block a → Block b → behind r a ≡ behind r b → a ≡ b
    behind_apart r a b p q e =
        block_ext a b p q (λ j h.
        let n = undo.position j in
        let nl = undo.position_lt j h in
        let z : P.reads n ≡ j = undo.position_reads j h in
        ap (at a) (sym z)
        ∙ substituted_apart r n (at a (P.reads n)) (at b (P.reads n)) (p.bytes (P.reads n)) (q.bytes (P.reads n))
        (sym (behind_at r a n nl) ∙ ap (λ (s : List ℕ). at s n) e ∙ behind_at r b n nl)
        ∙ ap (at b) z)

    mixed_block : (s : List ℕ) → Block (mixed P s)
    unfolding mixed
    mixed_block s = record { long = length_tabulate 16 _; bytes = mixed_bytes P fine s }

    -- ---- the four kinds of layer
    first_apart : (r : ℕ) → Apart (layer_of P C nr (First r))
    first_apart r a b p q e =
        behind_apart r a b p q
        (undo.mixed_apart (behind r a) (behind r b) (behind_block r a) (behind_block r b)
        (columns_apart r (mixed P (behind r a)) (mixed P (behind r b)) (mixed_block (behind r a)) (mixed_block (behind r b))
        (sym (is a) ∙ e ∙ is b)))
      where
        is : (s : List ℕ) → summed (values_in (layer_of P C nr (First r)) s) ≡ under_columns C r (mixed P (behind r s))
        is s =
            summed_fits (values_in (layer_of P C nr (First r)) s) (record { width = 4; standing = s; word = λ p. mixed_word P C r p (at (behind r s) p) }) good_4 refl
            (λ p h. ap (mixed_word P C r p) (sym (behind_at r s p h)))
            ∙ first_next P fine C sound r s (behind r s)

    second_apart : (r : ℕ) → Apart (layer_of P C nr (Second r))
    second_apart r a b p q e =
        sym (under_off r a p)
        ∙ ap (under_columns C r) (bytes_apart (suc r) (off_columns r a) (off_columns r b) (off_block r a) (off_block r b) (sym (is a p) ∙ e ∙ is b q))
        ∙ under_off r b q
      where
        is : (s : List ℕ) → Block s → summed (values_in (layer_of P C nr (Second r)) s) ≡ under_bytes C (suc r) (off_columns r s)
        is s h =
            ap (λ (x : List ℕ). summed (record { width = 4; standing = x; word = λ p. second_word_of P C r p (at x p) })) (sym (under_off r s h))
            ∙ second_next P fine C sound r (off_columns r s) (off_block r s).bytes

    entry_apart : Apart (layer_of P C nr Entry)
    entry_apart a b p q e =
        sym (on a p) ∙ ap (multiply C.input_matrix) (bytes_apart 1 (off a) (off b) (off_is a) (off_is b) (sym (is a p) ∙ e ∙ is b q)) ∙ on b q
      where
        off : List ℕ → List ℕ
        off s = multiply (inverse_of 128 C.input_matrix) s

        off_is : (s : List ℕ) → Block (off s)
        off_is s = multiply_block (inverse_of 128 C.input_matrix) s

        on : (s : List ℕ) → Block s → multiply C.input_matrix (off s) ≡ s
        on s h = multiply_back (inverse_of 128 C.input_matrix) C.input_matrix (inverse_undoes 128 C.input_matrix sound.input.fits sound.input.has).right s h

        is : (s : List ℕ) → Block s → summed (values_in (layer_of P C nr Entry) s) ≡ under_bytes C 1 (off s)
        is s h = ap (λ (x : List ℕ). summed (values_in (layer_of P C nr Entry) x)) (sym (on s h)) ∙ entry_next P fine C sound nr (off s) (off_is s)

    exit_apart : Apart (layer_of P C nr Exit)
    exit_apart a b p q e =
        behind_apart nr a b p q
        (multiply_apart C.output_matrix sound.output (behind nr a) (behind nr b) (behind_block nr a) (behind_block nr b) (sym (is a) ∙ e ∙ is b))
      where
        is : (s : List ℕ) → summed (values_in (layer_of P C nr Exit) s) ≡ multiply C.output_matrix (behind nr s)
        is s =
            summed_fits (values_in (layer_of P C nr Exit) s) (record { width = 16; standing = s; word = λ p. placed_word P C p (at (behind nr s) p) }) good_16 refl
            (λ p h. ap (placed_word P C p) (sym (behind_at nr s p h)))
            ∙ exit_next P fine C sound s (behind nr s) (behind_block nr s).bytes

    -- ---- all of them
    rounds_apart : (r n : ℕ) → AllApart (map (layer_of P C nr) (rounds r n ++ (Exit ∷ [])))
    unfolding rounds
    rounds_apart r zero = (exit_apart, tt)
    rounds_apart r (suc n) = (first_apart r, (second_apart r, rounds_apart (suc r) n))

    pub layers_apart : AllApart (layers P C nr)
    unfolding layers stages
    layers_apart = (entry_apart, rounds_apart 1 (nr - 1))
