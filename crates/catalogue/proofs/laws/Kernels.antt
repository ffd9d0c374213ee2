-- Laws, not definitions: a matrix has an inverse exactly where the kernel of its rows is the vector 0 alone; and the same test on a number, row by row from the top.
-- Assumes nothing.
use mathlib.Core.Bool.{Bool}
use mathlib.Core.List.{List}
use mathlib.Core.Logic.{⊎_elim}
use mathlib.Core.Path.{◌≡◌, refl, sym, ap, ap₂, ◌∙◌}
use Prim.Native.Nat.{ℕ, zero, suc, ◌+◌, ◌-◌, ◌*◌, ◌/◌, ◌%◌, ◌^◌, ◌<◌, min}
use native.Mathlib.Decide.{ℕ_discrete}
use native.Mathlib.Omega.{arith}
use borrow.Author.Tests.{eq-eqb, ne_eqb}
use lib.Arith.{digits_div, digits_mod}
use lib.Bits.{and_lt}
use lib.Dec.{eqb, eqb→eq}
use Rattle.bits.specs.Groups.{group}
use Rattle.bits.specs.Lists.{at}
use Rattle.bits.specs.Vectors.{bit, unit, dot}
use Rattle.bits.proofs.laws.Checked.{all_at}
use Rattle.bits.proofs.laws.Groups.{below_suc}
use Rattle.bits.proofs.laws.Vectors.{dot_lt, dot_zero_r, bit_lt, bit_and_lem, bit_zero, bit_ext, bit_vector, vector_lt, unit_lt, bit_unit_same, bit_unit_other}
use Rattle.matrices.specs.Matrices.{product, RowsFit}
use Rattle.matrices.proofs.laws.Matrices.{bit_product, product_none, product_zero}
use Rattle.inversion.specs.Elimination.{Inversion, inverse, singular, invert, has_inverse}
use Rattle.inversion.proofs.laws.Inverses.{answered, singular_kernel}
use Rattle.catalogue.specs.Catalogue.{side, rows_of_number, is_invertible}
use Rattle.catalogue.specs.Kernels.{vectors, kernel_of, kernel_with}
use Rattle.catalogue.proofs.laws.Numbered.{row_at, square}

-- ---- one row more
-- The kernel of no row has all vectors; the smallest has 0 alone.
abbrev pub whole : ℕ
whole = 2 ^ vectors - 1

abbrev pub alone : ℕ
alone = unit vectors 0

kernel_lt : (row : ℕ) → kernel_of row < 2 ^ vectors
unfolding kernel_of
kernel_lt row = vector_lt vectors (λ w. 1 - dot row w) (λ w h. omega arith)

bit_kernel : (row w : ℕ) → w < vectors → bit vectors w (kernel_of row) ≡ 1 - dot row w
unfolding kernel_of
bit_kernel row w h = bit_vector vectors (λ w. 1 - dot row w) (λ w h. omega arith) w h

bit_with : (k row w : ℕ) → w < vectors → bit vectors w (kernel_with k row) ≡ min (bit vectors w k) (1 - dot row w)
unfolding kernel_with
bit_with k row w h = bit_and_lem vectors w k (kernel_of row) ∙ ap (min (bit vectors w k)) (bit_kernel row w h)

-- ---- the rows f 0, .., f (n - 1)
unfoldable kernel_of_rows : ℕ → (ℕ → ℕ) → ℕ
kernel_of_rows zero f = whole
kernel_of_rows (suc n) f = kernel_with (kernel_of_rows n f) (f n)

kernel_rows_lt : (n : ℕ) (f : ℕ → ℕ) → kernel_of_rows n f < 2 ^ vectors
unfolding kernel_of_rows kernel_with
kernel_rows_lt zero f = omega arith
kernel_rows_lt (suc n) f = and_lt vectors (kernel_of_rows n f) (kernel_of (f n)) (kernel_rows_lt n f) (kernel_lt (f n))

-- It has the vector w exactly where each row takes w to 0.
has_zeroed : (n : ℕ) (f : ℕ → ℕ) (w : ℕ) → w < vectors → ((i : ℕ) → i < n → dot (f i) w ≡ 0) → bit vectors w (kernel_of_rows n f) ≡ 1
unfolding kernel_of_rows group
has_zeroed zero f w h z = eqb→eq _ 1 (all_at vectors (λ i. eqb (bit vectors i whole) 1) tt w h)
has_zeroed (suc n) f w h z =
    let before = has_zeroed n f w h (λ i l. z i (omega arith)) in
    bit_with (kernel_of_rows n f) (f n) w h ∙ omega (arith, z n (omega arith))

zeroes_had : (n : ℕ) (f : ℕ → ℕ) (w : ℕ) → w < vectors → bit vectors w (kernel_of_rows n f) ≡ 1 → (i : ℕ) → i < n → dot (f i) w ≡ 0
unfolding kernel_of_rows
zeroes_had zero f w h b i l = absurd (omega arith)
zeroes_had (suc n) f w h b i l =
    let both = bit_with (kernel_of_rows n f) (f n) w h in
    let small = bit_lt vectors w (kernel_of_rows n f) in
    let row = dot_lt (f n) w in
    ⊎_elim
    (λ (p : i < n). zeroes_had n f w h (omega arith) i p)
    (λ (p : i ≡ n). ap (λ (x : ℕ). dot (f x) w) p ∙ omega arith)
    (below_suc l)

-- ---- an inverse leaves 0 alone, and where there is none, some other vector is taken to 0
module _ (m : List ℕ) (fits : RowsFit side (at m)) where
  kernel : ℕ
  kernel = kernel_of_rows side (at m)

  has_zero : bit vectors 0 kernel ≡ 1
  unfolding kernel
  has_zero = has_zeroed side (at m) 0 (omega arith) (λ i l. dot_zero_r (at m i))

  only_zero : (b : List ℕ) → invert side m ≡ inverse b → (w : ℕ) → w < vectors → bit vectors w kernel ≡ 1 → 0 ≡ w
  unfolding kernel
  only_zero b e w h one =
      let undo = (answered side m b fits e).left in
      sym (undo 0 (omega arith))
      ∙ ap (product side b) (product_zero side (at m) ∙ sym (product_none side (at m) w (zeroes_had side (at m) w h one)))
      ∙ undo w h

  inverse_alone : (b : List ℕ) → invert side m ≡ inverse b → kernel ≡ alone
  unfolding kernel
  inverse_alone b e =
      bit_ext vectors kernel alone (kernel_rows_lt side (at m)) (unit_lt vectors 0 (omega arith)) (λ w h. elim (ℕ_discrete 0 w) [
        | yes z ↦ ap (λ (x : ℕ). bit vectors x kernel) (sym z) ∙ has_zero ∙ sym (bit_unit_same vectors 0) ∙ ap (λ (x : ℕ). bit vectors x alone) z
        | no z ↦
            let none : bit vectors w kernel ≡ 1 → ⊥ = λ one. z (only_zero b e w h one) in
            let small = bit_lt vectors w kernel in
            let zero_bit : bit vectors w kernel ≡ 0 = omega arith in
            zero_bit ∙ sym (bit_unit_other vectors 0 w (omega arith) h z)
      ])

  singular_more : invert side m ≡ singular → kernel ≡ alone → ⊥
  unfolding kernel
  singular_more e a =
      let W = singular_kernel side m fits e in
      let w = W.0 in
      let one : bit vectors w kernel ≡ 1 =
      has_zeroed side (at m) w W.1.fits (λ i l. sym (bit_product side (at m) w i l) ∙ ap (bit side i) W.1.zeroed ∙ bit_zero side i) in
      let none : bit vectors w alone ≡ 0 = bit_unit_other vectors 0 w (omega arith) W.1.fits (λ z. omega (arith, W.1.pos)) in
      omega (arith, one, ap (bit vectors w) a, none)

  -- So the kernel tells what the elimination answers.
  kernel_tells : has_inverse (invert side m) ≡ eqb (kernel_of_rows side (at m)) alone
  unfolding kernel
  kernel_tells = by (invert side m) refl
    where
      by : (r : Inversion) → invert side m ≡ r → has_inverse (invert side m) ≡ eqb kernel alone
      by (inverse b) e = ap has_inverse e ∙ sym (eq-eqb kernel alone (inverse_alone b e))
      by singular e = ap has_inverse e ∙ sym (ne_eqb kernel alone (singular_more e))

-- ---- the test of a number of `left` rows behind rows with the kernel k, row by row from the top
unfoldable pub passing : ℕ → ℕ → ℕ → Bool
passing zero k v = eqb k alone
passing (suc left) k v = passing left (kernel_with k (v / vectors ^ left)) (v % vectors ^ left)

pub passing_row : (left k row v : ℕ) → v < vectors ^ left → passing (suc left) k (row * vectors ^ left + v) ≡ passing left (kernel_with k row) v
unfolding passing
passing_row left k row v h = ap₂ (λ (a b : ℕ). passing left (kernel_with k a) b) (digits_div row h) (digits_mod row h)

-- The rows that it meets are those of the matrix.
same_rows : (a b c d : ℕ) (f : ℕ → ℕ) → f 0 ≡ a → f 1 ≡ b → f 2 ≡ c → f 3 ≡ d
    → kernel_of_rows side f ≡ kernel_with (kernel_with (kernel_with (kernel_with whole a) b) c) d
unfolding kernel_of_rows
same_rows a b c d f p q r s = cc

number_row : (v i : ℕ) → i < side → at (rows_of_number side v) i ≡ v / 2 ^ (side * (side - suc i)) % 2 ^ side
unfolding group
number_row v i h = row_at side v i h

pub passing_number : (v : ℕ) → v < 2 ^ (side * side) → is_invertible side v ≡ passing side whole v
unfolding is_invertible passing
passing_number v h =
    let m = rows_of_number side v in
    kernel_tells m (square side v).fits
    ∙ ap (λ (k : ℕ). eqb k alone)
    (same_rows _ _ _ _ (at m) (omega (arith, number_row v 0 (omega arith))) (omega (arith, number_row v 1 (omega arith)))
    (omega (arith, number_row v 2 (omega arith))) (omega (arith, number_row v 3 (omega arith))))

-- As the code tests a number: a, b, c and d are the kernels of its first row, of the first two, of three and of all.
pub number_tested : (v : ℕ) {a b c d : ℕ} → v < 2 ^ (side * side) → a ≡ kernel_with whole (v / vectors / vectors / vectors)
    → b ≡ kernel_with a (v / vectors / vectors % vectors) → c ≡ kernel_with b (v / vectors % vectors) → d ≡ kernel_with c (v % vectors)
    → eqb d alone ≡ is_invertible side v
unfolding passing
number_tested v {a} {b} {c} {d} h ea eb ec ed =
    let row₀ : v / vectors ^ 3 ≡ v / vectors / vectors / vectors = omega arith in
    let row₁ : v % vectors ^ 3 / vectors ^ 2 ≡ v / vectors / vectors % vectors = omega arith in
    let row₂ : v % vectors ^ 3 % vectors ^ 2 / vectors ^ 1 ≡ v / vectors % vectors = omega arith in
    let row₃ : v % vectors ^ 3 % vectors ^ 2 % vectors ^ 1 / vectors ^ 0 ≡ v % vectors = omega arith in
    sym (passing_number v h ∙ rw (row₀, row₁, row₂, row₃, ← ea, ← eb, ← ec, ← ed))
