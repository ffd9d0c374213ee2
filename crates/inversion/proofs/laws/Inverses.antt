-- Laws, not definitions: the theorems of specs/Inverses.antt, what an elimination in code has to show to meet `invert`, and the rows that it leaves.
-- Assumes nothing.
use mathlib.Core.Bool.{Bool, true}
use mathlib.Core.List.{List, ◌++◌}
use mathlib.Core.Path.{◌≡◌, refl, sym, ap, ap₂, ◌∙◌, subst}
use Prim.Native.Nat.{ℕ, zero, suc, ◌+◌, ◌-◌, ◌*◌, ◌^◌, ◌≤◌, ◌<◌}
use native.Mathlib.Decide.{ℕ_discrete}
use native.Mathlib.Omega.{arith}
use lib.ListN.{length, drop}
use lib.Pow.{pow_pos}
use Rattle.bits.specs.Bytes.{Bytes}
use Rattle.bits.specs.Lists.{at, tabulate}
use Rattle.bits.specs.Vectors.{bit, unit}
use Rattle.bits.proofs.laws.Lists.{at_tabulate, length_tabulate, tabulate_at, ext_at}
use Rattle.bits.proofs.laws.Vectors.{bit_lt, dot_unit, unit_lt, bit_ext}
use Rattle.matrices.specs.Matrices.{product_by, product, identity, matrix_of, RowsFit, Undoes, Invertible}
use Rattle.matrices.specs.Rows.{rows_of, stored, words_of}
use Rattle.matrices.proofs.laws.Matrices.{product_lt, bit_product, product_zero, identity_length}
use Rattle.matrices.proofs.laws.Rows.{rows_stored}
use Rattle.matrices.proofs.laws.Stored.{matrix_of_fits, read_rows}
use Rattle.matrices.proofs.laws.Words.{stored_words}
use Rattle.inversion.specs.Elimination.{left_step, right_step, choose, pivot_from, Inversion, inverse, singular, unless_zero, columns, invert}
use Rattle.inversion.specs.Elimination.{rows_in, inverse_of, has_inverse, with_inverse}
use Rattle.inversion.specs.Inverses.{UndoesBothWays, Answered, Refused, Exact, Unique}
use Rattle.inversion.proofs.laws.Elimination.{Inv, inv_same, inv_start, Solved, step_inv, step_solved, left_inverse, right_inverse, Kernel, kernel, kern}

-- ---- the pivot
pub record Found (n k : ℕ) (f : ℕ → ℕ) (i p : ℕ) : Type 0 where
  pub from : i ≤ p
  pub upto : p ≤ n
  pub has : p < n → bit n k (f p) ≡ 1
  pub before : (j : ℕ) → i ≤ j → j < p → bit n k (f j) ≡ 0

pub pivot_found : (n k : ℕ) (f : ℕ → ℕ) (d i : ℕ) → i + d ≡ n → Found n k f i (pivot_from n k f d i)
unfolding pivot_from
pivot_found n k f zero i e =
    record { from = omega arith; upto = omega arith; has = λ h. absurd (omega arith); before = λ j a b. absurd (omega arith) }
pivot_found n k f (suc d) i e = by (pivot_found n k f d (suc i) (omega arith)) (bit n k (f i)) refl
  where
    by : Found n k f (suc i) (pivot_from n k f d (suc i)) → (x : ℕ) → bit n k (f i) ≡ x
        → Found n k f i (choose (bit n k (f i)) i (pivot_from n k f d (suc i)))
    by F zero q = subst (λ (x : ℕ). Found n k f i (choose x i (pivot_from n k f d (suc i)))) (sym q) (record {
      from = omega (arith, F.from);
      upto = F.upto;
      has = F.has;
      before = λ j a b. elim (ℕ_discrete i j) [
        | yes r ↦ ap (λ (x : ℕ). bit n k (f x)) (sym r) ∙ q
        | no r ↦ F.before j (omega arith) b
      ];
    })
    by F (suc x) q = subst (λ (x : ℕ). Found n k f i (choose x i (pivot_from n k f d (suc i)))) (sym q) (record {
      from = omega arith;
      upto = omega arith;
      has = λ h. omega (arith, q, bit_lt n k (f i));
      before = λ j a b. absurd (omega arith);
    })

-- ---- what the elimination answers, of the map m
pub record Inverse (n : ℕ) (m : ℕ → ℕ) (b : ℕ → ℕ) : Type 0 where
  pub left : Undoes n (product_by n b) m
  pub right : Undoes n m (product_by n b)
  pub fits : RowsFit n b

abbrev Good : ℕ → (ℕ → ℕ) → Inversion → Type 0
Good n m (inverse b) = Inverse n m (at b) × (length b ≡ n)
Good n m singular = (v : ℕ) × Kernel n m v

pub solved_same : (n k : ℕ) (f f' : ℕ → ℕ) → Solved n k f → ((i : ℕ) → i < n → f' i ≡ f i) → Solved n k f'
unfolding Solved
solved_same n k f f' S e j i hj hi = ap (bit n j) (e i hi) ∙ S j i hj hi

pub solved_none : (n : ℕ) (f : ℕ → ℕ) → Solved n 0 f
unfolding Solved
solved_none n f j i hj hi = absurd (omega arith)

-- One column: either there is a pivot, and the rest goes on from the next state; or there is none.
column_good : (n : ℕ) (m : ℕ → ℕ) (k : ℕ) (f g : ℕ → ℕ) → k < n → Inv n m f g → Solved n k f → (p : ℕ) → Found n k f k p
    → (r : Inversion)
    → (Inv n m (at (tabulate n (left_step n k p f))) (at (tabulate n (right_step n k p f g))) → Solved n (suc k) (at (tabulate n (left_step n k p f))) → Good n m r)
    → (x : ℕ) → n - p ≡ x → Good n m (unless_zero x r)
column_good n m k f g hk I S p F r next zero q =
    (kern n k f k, kernel n m k f g I S hk (λ i a b. F.before i a (omega arith)))
column_good n m k f g hk I S p F r next (suc x) q =
    let hp : p < n = omega arith in
    let A = at_tabulate n (left_step n k p f) in
    let B = at_tabulate n (right_step n k p f g) in
    next (inv_same n m (left_step n k p f) (right_step n k p f g) (at (tabulate n (left_step n k p f))) (at (tabulate n (right_step n k p f g)))
    (step_inv n m k p f g hk F.from hp (F.has hp) I) A B)
    (solved_same n (suc k) (left_step n k p f) (at (tabulate n (left_step n k p f))) (step_solved n m k p f g hk F.from hp (F.has hp) S) A)

columns_good : (n : ℕ) (m : ℕ → ℕ) (d k : ℕ) (a b : List ℕ) → k + d ≡ n → length b ≡ n → Inv n m (at a) (at b) → Solved n k (at a)
    → Good n m (columns n d k a b)
unfolding columns
columns_good n m zero k a b e l I S =
    let T : Solved n n (at a) = subst (λ (x : ℕ). Solved n x (at a)) (omega arith) S in
    (record { left = left_inverse n m (at a) (at b) I T; right = right_inverse n m (at a) (at b) I T; fits = I.right_fits }, l)
columns_good n m (suc d) k a b e l I S =
    let p = pivot_from n k (at a) (n - k) k in
    let A = tabulate n (left_step n k p (at a)) in
    let B = tabulate n (right_step n k p (at a) (at b)) in
    column_good n m k (at a) (at b) (omega arith) I S p (pivot_found n k (at a) (n - k) k (omega arith)) (columns n d (suc k) A B)
    (λ J T. columns_good n m d (suc k) A B (omega arith) (length_tabulate n (right_step n k p (at a) (at b))) J T) (n - p) refl

invert_good : (n : ℕ) (m : List ℕ) → RowsFit n (at m) → Good n (product n m) (invert n m)
unfolding invert identity
invert_good n m fits =
    columns_good n (product n m) n 0 m (identity n) (omega arith) (identity_length n)
    (inv_same n (product n m) (at m) (unit n) (at m) (at (identity n)) (inv_start n (at m) fits) (λ i h. refl) (at_tabulate n (unit n)))
    (solved_none n (at m))

-- ---- the theorems
pub answered : Answered
answered n m b fits e =
    let G : Inverse n (product n m) (at b) × (length b ≡ n) = subst (λ (r : Inversion). Good n (product n m) r) e (invert_good n m fits) in
    record { left = G.0.left; right = G.0.right; long = G.1; fits = G.0.fits }

-- A vector other than 0 that a map with an inverse takes to 0.
no_kernel : (n : ℕ) (f : ℕ → ℕ) (v : ℕ) → Kernel n (product_by n f) v → (u : ℕ → ℕ) → Undoes n u (product_by n f) → ⊥
no_kernel n f v K u back =
    let e : v ≡ 0 = sym (back v K.fits) ∙ ap u (K.zeroed ∙ sym (product_zero n f)) ∙ back 0 (pow_pos n) in
    omega (arith, K.pos)

-- Where the elimination finds no inverse, the matrix takes some vector other than 0 to 0.
pub singular_kernel : (n : ℕ) (m : List ℕ) → RowsFit n (at m) → invert n m ≡ singular → (v : ℕ) × Kernel n (product n m) v
singular_kernel n m fits e = subst (λ (r : Inversion). Good n (product n m) r) e (invert_good n m fits)

pub refused : Refused
refused n m fits e I =
    let G = singular_kernel n m fits e in
    no_kernel n (at m) G.0 G.1 I.0 I.1

found : (r : Inversion) → (r ≡ singular → ⊥) → (b : List ℕ) × (r ≡ inverse b)
found (inverse b) h = (b, refl)
found singular h = absurd (h refl)

pub exact : Exact
exact n m fits I = found (invert n m) (λ e. refused n m fits e I)

-- The test that there is one, both ways.
module _ (n : ℕ) (m : List ℕ) (fits : RowsFit n (at m)) where
  pub passes_undone : has_inverse (invert n m) ≡ true → (b : List ℕ) × UndoesBothWays n m b
  passes_undone = by (invert n m) refl
    where
      by : (r : Inversion) → invert n m ≡ r → has_inverse r ≡ true → (b : List ℕ) × UndoesBothWays n m b
      by (inverse b) e t = (b, answered n m b fits e)
      by singular e t = let y : ◌≡◌ {A = ℕ} 0 1 = cc in absurd (omega arith)

  pub passes_invertible : has_inverse (invert n m) ≡ true → Invertible n m
  passes_invertible t = let found = passes_undone t in (product n found.0, found.1.left)

  pub invertible_passes : Invertible n m → has_inverse (invert n m) ≡ true
  invertible_passes I = ap has_inverse (exact n m fits I).1

-- Two matrices with the same products are the same.
rows_same : (n : ℕ) (b c : ℕ → ℕ) → RowsFit n b → RowsFit n c → ((w : ℕ) → w < 2 ^ n → product_by n b w ≡ product_by n c w)
    → (i : ℕ) → i < n → b i ≡ c i
rows_same n b c B C same i hi =
    bit_ext n (b i) (c i) (B i hi) (C i hi) (λ j hj.
    let w = unit n j in
    sym (dot_unit n j (b i)) ∙ sym (bit_product n b w i hi) ∙ ap (bit n i) (same w (unit_lt n j hj)) ∙ bit_product n c w i hi
    ∙ dot_unit n j (c i))

pub unique : Unique
unique n m b c fits cfits long e =
    let U = answered n m b fits e in
    let same : ((w : ℕ) → w < 2 ^ n → product n c w ≡ product n b w) → c ≡ b =
    λ p. ext_at n c b long U.long (rows_same n (at c) (at b) cfits U.fits p) in (
      λ left. same (λ w hw.
          ap (product n c) (sym (U.right w hw)) ∙ left (product n b w) (product_lt n (at b) w)),
      λ right. same (λ w hw.
          sym (U.left (product n c w) (product_lt n (at c) w)) ∙ ap (product n b) (right w hw)),
    )

-- ---- the rows of the inverse, of a matrix that has one
pub inverse_undoes : (n : ℕ) (m : List ℕ) → RowsFit n (at m) → Invertible n m → UndoesBothWays n m (inverse_of n m)
unfolding inverse_of
inverse_undoes n m fits has =
    let B = exact n m fits has in
    rw B.1 (answered n m B.0 fits B.1)

-- ---- the rows that the code's `invert` leaves in the words b
inverse_stored : (n : ℕ) (m b b' : List ℕ) → RowsFit n (at m) → 2 * n ≤ length b → (r : Inversion) → invert n m ≡ r → has_inverse r ≡ true
    → b' ≡ with_inverse n r b → rows_of n b' ≡ rows_in r
inverse_stored n m b b' fits h (inverse c) e t q =
    ap (rows_of n) q ∙ rows_stored n (at c) b h ∙ tabulate_at n c (answered n m c fits e).long
inverse_stored n m b b' fits h singular e t q = let y : ◌≡◌ {A = ℕ} 0 1 = cc in absurd (omega arith)

-- Of a matrix that the bytes p write.
module _ (w : ℕ) (p : List ℕ) (bytes : Bytes p) where
  fits : RowsFit (8 * w) (at (matrix_of w p))
  fits = matrix_of_fits w p bytes

  -- Where it has an inverse, `invert_bytes` finds it.
  pub inverse_found : Invertible (8 * w) (matrix_of w p) → has_inverse (invert (8 * w) (matrix_of w p)) ≡ true
  inverse_found I = invertible_passes (8 * w) (matrix_of w p) fits I

  -- `invert_bytes` leaves the rows b' in the place of b.
  pub inverse_left : (b b' : List ℕ) → has_inverse (invert (8 * w) (matrix_of w p)) ≡ true → 16 * w ≤ length b
      → b' ≡ with_inverse (8 * w) (invert (8 * w) (matrix_of w p)) b → rows_of (8 * w) b' ≡ inverse_of (8 * w) (matrix_of w p)
  unfolding inverse_of
  inverse_left b b' has h left =
      inverse_stored (8 * w) (matrix_of w p) b b' fits (omega arith) (invert (8 * w) (matrix_of w p)) refl has left

  -- As words: those of the inverse, and behind them those of b.
  pub inverse_words : (b b' : List ℕ) → Invertible (8 * w) (matrix_of w p) → 16 * w ≤ length b
      → b' ≡ with_inverse (8 * w) (invert (8 * w) (matrix_of w p)) b
      → b' ≡ words_of (8 * w) (inverse_of (8 * w) (matrix_of w p)) ++ drop (16 * w) b
  unfolding inverse_of
  inverse_words b b' I h left =
      let found = exact (8 * w) (matrix_of w p) fits I in
      let all : 2 * (8 * w) ≡ 16 * w = omega arith in
      left
      ∙ ap (λ (r : Inversion). with_inverse (8 * w) r b) found.1
      ∙ stored_words (8 * w) found.0 b (omega arith)
      ∙ ap₂ (λ (c : List ℕ) (k : ℕ). words_of (8 * w) c ++ drop k b) (sym (ap rows_in found.1)) all

-- The bytes p are read into the rows m, which were m₀: what the elimination of the rows answers, r, and leaves, b', holds of the matrix that the bytes write.
module _ (w : ℕ) (p m₀ m : List ℕ) (r : Bool) (room : 16 * w ≤ length m₀) (read : m ≡ stored (8 * w) (at (matrix_of w p)) m₀) where
  pub read_answered : r ≡ has_inverse (invert (8 * w) (rows_of (8 * w) m)) → r ≡ has_inverse (invert (8 * w) (matrix_of w p))
  read_answered answer = answer ∙ ap (λ (a : List ℕ). has_inverse (invert (8 * w) a)) (read_rows w p m₀ m room read)

  pub read_inverted : (b b' : List ℕ)
      → (r ≡ has_inverse (invert (8 * w) (rows_of (8 * w) m))) × (b' ≡ with_inverse (8 * w) (invert (8 * w) (rows_of (8 * w) m)) b)
      → (r ≡ has_inverse (invert (8 * w) (matrix_of w p))) × (b' ≡ with_inverse (8 * w) (invert (8 * w) (matrix_of w p)) b)
  read_inverted b b' inverted =
      let left = ap (λ (a : List ℕ). with_inverse (8 * w) (invert (8 * w) a) b) (read_rows w p m₀ m room read) in
      (read_answered inverted.0, inverted.1 ∙ left)
