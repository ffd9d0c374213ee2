-- Laws, not definitions: what the steps of the elimination keep, over the number n of rows, for matrices that are functions from
-- a row's number to the row. One kind of step serves: a row s is added to every row i whose coefficient c i is 1, where c s is 0.
-- Assumes nothing.
use mathlib.Core.Logic.{◌≢◌, ⊎_elim}
use mathlib.Core.Path.{◌≡◌, refl, sym, ap, ap₂, ◌∙◌, subst}
use Prim.Native.Nat.{ℕ, zero, suc, ◌+◌, ◌-◌, ◌*◌, ◌%◌, ◌^◌, ◌≤◌, ◌<◌}
use native.Mathlib.Decide.{dec_lt, ℕ_discrete}
use native.Mathlib.Nat.{zero-mul, mul-zero, mul-one, one-mul, eq-zero-or-pos}
use native.Mathlib.Omega.{arith}
use lib.Bits.{bit_xor, xor_lt}
use lib.Pow.{pow_pos}
use Rattle.bits.specs.Vectors.{bit, unit, dot, delta}
use Rattle.bits.proofs.laws.Xor.{two, xor_zero_eq}
use Rattle.bits.proofs.laws.Vectors.{dot_lt, dot_comm, dot_xor, xor_dot, dot_scale, delta_same, delta_eq, delta_other, delta_lt}
use Rattle.bits.proofs.laws.Vectors.{bit_lt, bit_xor_lem, bit_scale, bit_zero, unit_dot, dot_unit, unit_lt, bit_unit_same, bit_unit_other, bit_ext}
use Rattle.matrices.specs.Matrices.{product_by}
use Rattle.matrices.proofs.laws.Matrices.{product_lt, bit_product}
use Rattle.inversion.specs.Elimination.{add_row, pivot_by, clear_by, pivoted, left_step, right_step}

-- ---- the step
-- x is 0 or 1, so nothing is lost by `% 2`
keep : (x : ℕ) → x < 2 → (x + 0) % 2 ≡ x
keep x h = omega arith

drop_mul : (x c y : ℕ) → x < 2 → y ≡ 0 → (x + c * y) % 2 ≡ x
drop_mul x c y h e = ap (λ (z : ℕ). (x + c * z) % 2) e ∙ ap (λ (z : ℕ). (x + z) % 2) (mul-zero c) ∙ keep x h

drop_coef : (x c y : ℕ) → x < 2 → c ≡ 0 → (x + c * y) % 2 ≡ x
drop_coef x c y h e = ap (λ (z : ℕ). (x + z * y) % 2) e ∙ ap (λ (z : ℕ). (x + z) % 2) (zero-mul y) ∙ keep x h

twice : (x : ℕ) → (x + x) % 2 ≡ 0
twice x = omega arith

pub dot_add_row : (c : ℕ → ℕ) (s : ℕ) (f : ℕ → ℕ) (i v : ℕ) → c i < 2 → dot (add_row c s f i) v ≡ (dot (f i) v + c i * dot (f s) v) % 2
unfolding add_row
dot_add_row c s f i v h = xor_dot (f i) (c i * f s) v ∙ ap (λ (z : ℕ). (dot (f i) v + z) % 2) (dot_scale (c i) (f s) v h)

pub bit_add_row : (n : ℕ) (c : ℕ → ℕ) (s : ℕ) (f : ℕ → ℕ) (i j : ℕ) → c i < 2 → bit n j (add_row c s f i) ≡ (bit n j (f i) + c i * bit n j (f s)) % 2
unfolding add_row
bit_add_row n c s f i j h = bit_xor_lem n j (f i) (c i * f s) ∙ ap (λ (z : ℕ). (bit n j (f i) + z) % 2) (bit_scale n j (c i) (f s) h)

scale_lt : (c a b : ℕ) → c < 2 → a < b → c * a < b
scale_lt c a b h k = two (λ c. c * a < b) (omega arith) (omega arith) c h

pub add_row_lt : (n : ℕ) (c : ℕ → ℕ) (s : ℕ) (f : ℕ → ℕ) (i : ℕ) → c i < 2 → f i < 2 ^ n → f s < 2 ^ n → add_row c s f i < 2 ^ n
unfolding add_row
add_row_lt n c s f i h hi hs = xor_lt n (f i) (c i * f s) hi (scale_lt (c i) (f s) (2 ^ n) h hs)

-- ---- what every step keeps: of the map m, f is what is left of its matrix and g what the same steps made of the identity
pub record Inv (n : ℕ) (m : ℕ → ℕ) (f g : ℕ → ℕ) : Type 0 where
  pub range : (v : ℕ) → m v < 2 ^ n
  pub left_fits : (i : ℕ) → i < n → f i < 2 ^ n
  pub right_fits : (i : ℕ) → i < n → g i < 2 ^ n
  pub link : (v i : ℕ) → i < n → dot (g i) (m v) ≡ dot (f i) v
  pub null : (w : ℕ) → w < 2 ^ n → ((i : ℕ) → i < n → dot (g i) w ≡ 0) → w ≡ 0

-- only the rows below n count
pub inv_same : (n : ℕ) (m : ℕ → ℕ) (f g f' g' : ℕ → ℕ) → Inv n m f g
    → ((i : ℕ) → i < n → f' i ≡ f i) → ((i : ℕ) → i < n → g' i ≡ g i)
    → Inv n m f' g'
inv_same n m f g f' g' I p q = record {
  range = I.range;
  left_fits = λ i h. subst (λ (x : ℕ). x < 2 ^ n) (sym (p i h)) (I.left_fits i h);
  right_fits = λ i h. subst (λ (x : ℕ). x < 2 ^ n) (sym (q i h)) (I.right_fits i h);
  link = λ v i h. ap (λ (x : ℕ). dot x (m v)) (q i h) ∙ I.link v i h ∙ ap (λ (x : ℕ). dot x v) (sym (p i h));
  null = λ w hw e. I.null w hw (λ i h. ap (λ (x : ℕ). dot x w) (sym (q i h)) ∙ e i h);
}

-- the start
pub inv_start : (n : ℕ) (f : ℕ → ℕ) → ((i : ℕ) → i < n → f i < 2 ^ n) → Inv n (product_by n f) f (unit n)
inv_start n f fits = record {
  range = λ v. product_lt n f v;
  left_fits = fits;
  right_fits = λ i h. unit_lt n i h;
  link = λ v i h. unit_dot n i (product_by n f v) ∙ bit_product n f v i h;
  null = λ w hw e. bit_ext n w 0 hw (pow_pos n) (λ i h. sym (unit_dot n i w) ∙ e i h ∙ sym (bit_zero n i));
}

-- a step
module _ (n : ℕ) (m : ℕ → ℕ) (c : ℕ → ℕ) (s : ℕ) (hs : s < n) (cs : c s ≡ 0) (small : (i : ℕ) → c i < 2) where
  pub inv_add_row : (f g : ℕ → ℕ) → Inv n m f g → Inv n m (add_row c s f) (add_row c s g)
  inv_add_row f g I = record {
    range = I.range;
    left_fits = λ i h. add_row_lt n c s f i (small i) (I.left_fits i h) (I.left_fits s hs);
    right_fits = λ i h. add_row_lt n c s g i (small i) (I.right_fits i h) (I.right_fits s hs);
    link = λ v i h.
        dot_add_row c s g i (m v) (small i)
        ∙ ap₂ (λ (x y : ℕ). (x + c i * y) % 2) (I.link v i h) (I.link v s hs)
        ∙ sym (dot_add_row c s f i v (small i));
    null = λ w hw e.
        let z : dot (g s) w ≡ 0 =
        sym (drop_coef (dot (g s) w) (c s) (dot (g s) w) (dot_lt (g s) w) cs) ∙ sym (dot_add_row c s g s w (small s)) ∙ e s hs in
        I.null w hw (λ i h.
        sym (drop_mul (dot (g i) w) (c i) (dot (g s) w) (dot_lt (g i) w) z) ∙ sym (dot_add_row c s g i w (small i)) ∙ e i h);
  }

-- ---- the first k columns are the identity's
unfoldable pub Solved : ℕ → ℕ → (ℕ → ℕ) → Type 0
Solved n k f = (j i : ℕ) → j < k → i < n → bit n j (f i) ≡ delta i j

-- a row without those columns, added to others, keeps them
solved_add_row : (n k : ℕ) (c : ℕ → ℕ) (s : ℕ) (f : ℕ → ℕ) → ((i : ℕ) → c i < 2) → k ≤ s → s < n → Solved n k f → Solved n k (add_row c s f)
unfolding Solved
solved_add_row n k c s f small ks hs S j i hj hi =
    let away : s ≢ j = omega arith in
    bit_add_row n c s f i j (small i)
    ∙ drop_mul (bit n j (f i)) (c i) (bit n j (f s)) (bit_lt n j (f i)) (S j s hj hs ∙ delta_other s j away)
    ∙ S j i hj hi

bit_mul : (x y : ℕ) → x < 2 → y < 2 → x * y < 2
bit_mul x y h k = scale_lt x y 2 h k

pub pivot_by_lt : (n k : ℕ) (f : ℕ → ℕ) (i : ℕ) → pivot_by n k f i < 2
unfolding pivot_by
pivot_by_lt n k f i = bit_mul (delta i k) (1 - bit n k (f k)) (delta_lt i k) (omega arith)

pub clear_by_lt : (n k : ℕ) (f : ℕ → ℕ) (i : ℕ) → clear_by n k f i < 2
unfolding clear_by
clear_by_lt n k f i = bit_mul (1 - delta i k) (bit n k (f i)) (omega arith) (bit_lt n k (f i))

-- the pivot itself is not changed
pub pivot_by_pivot : (n k p : ℕ) (f : ℕ → ℕ) → bit n k (f p) ≡ 1 → pivot_by n k f p ≡ 0
unfolding pivot_by
pivot_by_pivot n k p f e = elim (ℕ_discrete p k) [
  | yes q ↦ ap (λ (x : ℕ). delta p k * (1 - x)) (ap (λ (x : ℕ). bit n k (f x)) (sym q) ∙ e) ∙ mul-zero (delta p k)
  | no q ↦ ap (λ (x : ℕ). x * (1 - bit n k (f k))) (delta_other p k q) ∙ zero-mul (1 - bit n k (f k))
]

pub clear_by_pivot : (n k : ℕ) (f : ℕ → ℕ) → clear_by n k f k ≡ 0
unfolding clear_by
clear_by_pivot n k f = ap (λ (x : ℕ). (1 - x) * bit n k (f k)) (delta_same k) ∙ zero-mul (bit n k (f k))

-- after the first, row k has bit k
pub pivoted_bit : (n k p : ℕ) (f : ℕ → ℕ) → bit n k (f p) ≡ 1 → bit n k (add_row (pivot_by n k f) p f k) ≡ 1
unfolding pivot_by
pivoted_bit n k p f e =
    let b = bit n k (f k) in
    let one : (x : ℕ) → x < 2 → (x + 1 * (1 - x) * 1) % 2 ≡ 1 = two (λ x. (x + 1 * (1 - x) * 1) % 2 ≡ 1) refl refl in
    bit_add_row n (pivot_by n k f) p f k k (pivot_by_lt n k f k)
    ∙ ap₂ (λ (x y : ℕ). (b + x * (1 - b) * y) % 2) (delta_same k) e
    ∙ one b (bit_lt n k (f k))

-- after the second, column k is the identity's too
pub cleared : (n k : ℕ) (f : ℕ → ℕ) → k < n → bit n k (f k) ≡ 1 → Solved n k f → Solved n (suc k) (add_row (clear_by n k f) k f)
unfolding Solved clear_by
cleared n k f hk e S j i hj hi =
    let b = bit n k (f i) in
    let F = add_row (clear_by n k f) k f in
    elim (dec_lt j k) [
      | yes q ↦ solved_add_row n k (clear_by n k f) k f (clear_by_lt n k f) (omega arith) hk S j i q hi
      | no q ↦
          let same : k ≡ j = omega arith in
          subst (λ (j : ℕ). bit n j (F i) ≡ delta i j) same (elim (ℕ_discrete i k) [
            | yes r ↦
                ap (λ (x : ℕ). bit n k (F x)) r
                ∙ bit_add_row n (clear_by n k f) k f k k (clear_by_lt n k f k)
                ∙ drop_coef (bit n k (f k)) (clear_by n k f k) (bit n k (f k)) (bit_lt n k (f k)) (clear_by_pivot n k f)
                ∙ e ∙ sym (delta_eq i k r)
            | no r ↦
                bit_add_row n (clear_by n k f) k f i k (clear_by_lt n k f i)
                ∙ ap₂ (λ (x y : ℕ). (b + (1 - x) * b * y) % 2) (delta_other i k r) e
                ∙ ap (λ (x : ℕ). (b + x) % 2) (mul-one (1 * b) ∙ one-mul b)
                ∙ twice b ∙ sym (delta_other i k r)
          ])
    ]

-- ---- a column: both, on both sides
module _ (n : ℕ) (m : ℕ → ℕ) (k p : ℕ) (f g : ℕ → ℕ) (hk : k < n) (kp : k ≤ p) (hp : p < n) (has : bit n k (f p) ≡ 1) where
  pub step_inv : Inv n m f g → Inv n m (left_step n k p f) (right_step n k p f g)
  step_inv I =
      let F = pivoted n k p f in
      inv_add_row n m (clear_by n k F) k hk (clear_by_pivot n k F) (clear_by_lt n k F) F (add_row (pivot_by n k f) p g)
      (inv_add_row n m (pivot_by n k f) p hp (pivot_by_pivot n k p f has) (pivot_by_lt n k f) f g I)

  pub step_solved : Solved n k f → Solved n (suc k) (left_step n k p f)
  step_solved S =
      cleared n k (pivoted n k p f) hk (pivoted_bit n k p f has) (solved_add_row n k (pivot_by n k f) p f (pivot_by_lt n k f) kp hp S)

-- ---- all columns done: g is the inverse
solved_unit : (n : ℕ) (f : ℕ → ℕ) → ((i : ℕ) → i < n → f i < 2 ^ n) → Solved n n f → (i : ℕ) → i < n → f i ≡ unit n i
unfolding Solved
solved_unit n f fits S i hi =
    bit_ext n (f i) (unit n i) (fits i hi) (unit_lt n i hi) (λ j hj. S j i hj hi ∙ elim (ℕ_discrete i j) [
      | yes q ↦ delta_eq i j q ∙ sym (ap (λ (x : ℕ). bit n x (unit n i)) (sym q) ∙ bit_unit_same n i)
      | no q ↦ delta_other i j q ∙ sym (bit_unit_other n i j hi hj q)
    ])

module _ (n : ℕ) (m : ℕ → ℕ) (f g : ℕ → ℕ) (I : Inv n m f g) (S : Solved n n f) where
  row : (v i : ℕ) → i < n → dot (g i) (m v) ≡ bit n i v
  row v i h = I.link v i h ∙ ap (λ (x : ℕ). dot x v) (solved_unit n f I.left_fits S i h) ∙ unit_dot n i v

  pub left_inverse : (v : ℕ) → v < 2 ^ n → product_by n g (m v) ≡ v
  left_inverse v hv = bit_ext n (product_by n g (m v)) v (product_lt n g (m v)) hv (λ i h. bit_product n g (m v) i h ∙ row v i h)

  pub right_inverse : (w : ℕ) → w < 2 ^ n → m (product_by n g w) ≡ w
  right_inverse w hw =
      let u = product_by n g w in
      xor_zero_eq (m u) w (I.null (bit_xor (m u) w) (xor_lt n (m u) w (I.range u) hw) (λ i h.
      dot_xor (g i) (m u) w ∙ ap (λ (x : ℕ). (x + dot (g i) w) % 2) (row u i h ∙ bit_product n g w i h) ∙ twice (dot (g i) w)))

-- ---- no row from k on has bit k: a vector that the map takes to 0
unfoldable pub kern : ℕ → ℕ → (ℕ → ℕ) → ℕ → ℕ
kern n k f zero = unit n k
kern n k f (suc t) = bit_xor (kern n k f t) (bit n k (f t) * unit n t)

module _ (n k : ℕ) (f : ℕ → ℕ) (hk : k < n) where
  pub kern_lt : (t : ℕ) → t ≤ k → kern n k f t < 2 ^ n
  unfolding kern
  kern_lt zero h = unit_lt n k hk
  kern_lt (suc t) h =
      xor_lt n (kern n k f t) (bit n k (f t) * unit n t) (kern_lt t (omega arith))
      (scale_lt (bit n k (f t)) (unit n t) (2 ^ n) (bit_lt n k (f t)) (unit_lt n t (omega arith)))

  kern_bit : (t : ℕ) → t ≤ k → bit n k (kern n k f t) ≡ 1
  unfolding kern
  kern_bit zero h = bit_unit_same n k
  kern_bit (suc t) h =
      let c = bit n k (f t) in
      let away : t ≢ k = omega arith in
      bit_xor_lem n k (kern n k f t) (c * unit n t)
      ∙ ap₂ (λ (x y : ℕ). (x + y) % 2) (kern_bit t (omega arith)) (bit_scale n k c (unit n t) (bit_lt n k (f t)))
      ∙ drop_mul 1 c (bit n k (unit n t)) (omega arith) (bit_unit_other n t k (omega arith) hk away)

  dot_kern : (t i : ℕ) → dot (f i) (kern n k f (suc t)) ≡ (dot (f i) (kern n k f t) + bit n k (f t) * bit n t (f i)) % 2
  unfolding kern
  dot_kern t i =
      let c = bit n k (f t) in
      dot_xor (f i) (kern n k f t) (c * unit n t)
      ∙ ap (λ (x : ℕ). (dot (f i) (kern n k f t) + x) % 2)
      (dot_comm (f i) (c * unit n t) ∙ dot_scale c (unit n t) (f i) (bit_lt n k (f t)) ∙ ap (λ (x : ℕ). c * x) (unit_dot n t (f i)))

  module _ (S : Solved n k f) where
    kern_above : (t i : ℕ) → t ≤ k → t ≤ i → i < n → dot (f i) (kern n k f t) ≡ bit n k (f i)
    unfolding kern Solved
    kern_above zero i h ti hi = dot_unit n k (f i)
    kern_above (suc t) i h ti hi =
        let away : i ≢ t = omega arith in
        dot_kern t i
        ∙ drop_mul (dot (f i) (kern n k f t)) (bit n k (f t)) (bit n t (f i)) (dot_lt (f i) (kern n k f t)) (S t i (omega arith) hi ∙ delta_other i t away)
        ∙ kern_above t i (omega arith) (omega arith) hi

    kern_below : (t i : ℕ) → t ≤ k → i < t → i < n → dot (f i) (kern n k f t) ≡ 0
    unfolding Solved
    kern_below zero i h it hi = absurd (omega arith)
    kern_below (suc t) i h it hi =
        let rec : i < t → dot (f i) (kern n k f t) ≡ 0 = λ q. kern_below t i (omega arith) q hi in
        dot_kern t i ∙ elim (ℕ_discrete i t) [
          | yes q ↦
              ap₂ (λ (x y : ℕ). (x + bit n k (f t) * y) % 2)
              (kern_above t i (omega arith) (omega arith) hi ∙ ap (λ (x : ℕ). bit n k (f x)) q)
              (S t i (omega arith) hi ∙ delta_eq i t q)
              ∙ ap (λ (x : ℕ). (bit n k (f t) + x) % 2) (mul-one (bit n k (f t)))
              ∙ twice (bit n k (f t))
          | no q ↦
              drop_mul (dot (f i) (kern n k f t)) (bit n k (f t)) (bit n t (f i)) (dot_lt (f i) (kern n k f t)) (S t i (omega arith) hi ∙ delta_other i t q)
              ∙ rec (omega arith)
        ]

    pub kern_zero : ((i : ℕ) → k ≤ i → i < n → bit n k (f i) ≡ 0) → (i : ℕ) → i < n → dot (f i) (kern n k f k) ≡ 0
    kern_zero none i hi = elim (dec_lt i k) [
      | yes q ↦ kern_below k i (omega arith) q hi
      | no q ↦ kern_above k i (omega arith) (omega arith) hi ∙ none i (omega arith) hi
    ]

  pub kern_pos : 0 < kern n k f k
  kern_pos = ⊎_elim
      (λ (e : kern n k f k ≡ 0).
      let z : ◌≡◌ {A = ℕ} 1 0 = sym (kern_bit k (omega arith)) ∙ ap (bit n k) e ∙ bit_zero n k in
      absurd (omega arith))
      (λ h. h) (eq-zero-or-pos (kern n k f k))

-- v is no zero, and m takes it to zero
pub record Kernel (n : ℕ) (m : ℕ → ℕ) (v : ℕ) : Type 0 where
  pub pos : 0 < v
  pub fits : v < 2 ^ n
  pub zeroed : m v ≡ 0

pub kernel : (n : ℕ) (m : ℕ → ℕ) (k : ℕ) (f g : ℕ → ℕ) → Inv n m f g → Solved n k f → k < n
    → ((i : ℕ) → k ≤ i → i < n → bit n k (f i) ≡ 0) → Kernel n m (kern n k f k)
kernel n m k f g I S hk none =
    let v = kern n k f k in record {
      pos = kern_pos n k f hk;
      fits = kern_lt n k f hk k (omega arith);
      zeroed = I.null (m v) (I.range v) (λ i h. I.link v i h ∙ kern_zero n k f hk S none i h);
    }
