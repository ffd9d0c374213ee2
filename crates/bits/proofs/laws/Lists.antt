-- Laws, not definitions: lists that are tabulated, lists that a loop fills from the front, lists one after the other, and parts of lists.
-- Assumes nothing.
use mathlib.Core.Path.{◌≡◌, refl, sym, ap, ap₂, ◌∙◌, subst}
use mathlib.Core.List.{List, [], ◌∷◌, ◌++◌, append_assoc, append-nil}
use Prim.Native.Nat.{ℕ, zero, suc, ◌+◌, ◌-◌, ◌*◌, ◌≤◌, ◌<◌, suc-le-suc}
use native.Mathlib.Nat.{le_of_suc-le-suc, not-suc-le-zero, zero-lt-suc, add-zero, zero-mul, suc-mul}
use native.Mathlib.Decide.{dec_lt}
use native.Mathlib.Numerals.{add-one}
use native.Mathlib.Omega.{arith}
use borrow.Rule.Slice.PartMut.{put_mid, post_of}
use lib.Arith.{digits_lt}
use lib.ListN.{get_or, length, set, take, drop, replicate, length-append, length-take, length-drop, length-replicate, get_or-replicate}
use lib.ListN.{get_or-append, get_or-eq_default}
use lib.Seq.{ext_get_or, take-suc-set, take_all, take_at, length-take-le, get_or-append-add, take-nil}
use Rattle.bits.specs.Lists.{at, tabulate, concat}

-- ---- tabulated lists
pub length_tabulate : {A : Type 0} (n : ℕ) (f : ℕ → A) → length (tabulate n f) ≡ n
unfolding tabulate
length_tabulate zero f = refl
length_tabulate (suc n) f = ap suc (length_tabulate n (λ k. f (suc k)))

pub get_d_tabulate : {A : Type 0} (n : ℕ) (f : ℕ → A) (d : A) (i : ℕ) → i < n → get_or (tabulate n f) i d ≡ f i
unfolding tabulate
get_d_tabulate zero f d i h = absurd (not-suc-le-zero h)
get_d_tabulate (suc n) f d zero h = refl
get_d_tabulate (suc n) f d (suc i) h = get_d_tabulate n (λ k. f (suc k)) d i (le_of_suc-le-suc h)

pub at_tabulate : (n : ℕ) (f : ℕ → ℕ) (i : ℕ) → i < n → at (tabulate n f) i ≡ f i
at_tabulate n f i h = get_d_tabulate n f 0 i h

pub tabulate_ext : {A : Type 0} (n : ℕ) (f g : ℕ → A) → ((i : ℕ) → i < n → f i ≡ g i) → tabulate n f ≡ tabulate n g
unfolding tabulate
tabulate_ext zero f g h = refl
tabulate_ext (suc n) f g h =
    ap₂ (λ a l. a ∷ l) (h zero (zero-lt-suc n)) (tabulate_ext n (λ k. f (suc k)) (λ k. g (suc k)) (λ i b. h (suc i) (suc-le-suc b)))

pub tabulate_snoc : {A : Type 0} (n : ℕ) (f : ℕ → A) → tabulate (suc n) f ≡ tabulate n f ++ (f n ∷ [])
unfolding tabulate
tabulate_snoc zero f = refl
tabulate_snoc (suc n) f = ap (λ l. f zero ∷ l) (tabulate_snoc n (λ k. f (suc k)))

-- A list is its elements, tabulated.
pub tabulate_at : (n : ℕ) (s : List ℕ) → length s ≡ n → tabulate n (at s) ≡ s
tabulate_at n s e =
    ext_get_or 0 (tabulate n (at s)) s (length_tabulate n _ ∙ sym e)
    (λ i h. at_tabulate n (at s) i (omega (arith, length_tabulate n (at s))))

-- Two lists with the same n elements.
pub ext_at : (n : ℕ) (a b : List ℕ) → length a ≡ n → length b ≡ n → ((i : ℕ) → i < n → at a i ≡ at b i) → a ≡ b
ext_at n a b p q e = ext_get_or 0 a b (p ∙ sym q) (λ i h. e i (omega arith))

-- ---- an element past the end is 0
pub at_past : (l : List ℕ) (i : ℕ) → length l ≤ i → at l i ≡ 0
at_past l i h = get_or-eq_default l 0 {n = i} h

-- ---- lists of zeros
pub zeros : (n : ℕ) → tabulate {A = ℕ} n (λ i. 0) ≡ replicate n 0
unfolding tabulate
zeros zero = refl
zeros (suc n) = ap (λ (l : List ℕ). 0 ∷ l) (zeros n)

pub zero_at : (n j : ℕ) → at (replicate n 0) j ≡ 0
zero_at n j = elim (dec_lt j n) [
  | yes h ↦ get_or-replicate n j 0 0 h
  | no h ↦ at_past (replicate n 0) j (omega (arith, length-replicate {A = ℕ} n 0))
]

-- ---- every element is below a bound
abbrev pub Below : ℕ → List ℕ → Type 0
Below b l = (i : ℕ) → at l i < b

pub tabulate_below : (b n : ℕ) (f : ℕ → ℕ) → 0 < b → ((i : ℕ) → i < n → f i < b) → Below b (tabulate n f)
tabulate_below b n f p h i = elim (dec_lt i n) [
  | yes l ↦ rw (at_tabulate n f i l) (h i l)
  | no l ↦ rw (at_past (tabulate n f) i (omega (arith, length_tabulate n f))) p
]

pub append_below : (b : ℕ) (u v : List ℕ) → Below b u → Below b v → Below b (u ++ v)
append_below b u v p q i = elim (dec_lt i (length u)) [
  | yes h ↦ rw (get_or-append u v 0 i h) (p i)
  | no h ↦
      let e : i ≡ length u + (i - length u) = omega arith in
      rw (e, get_or-append-add u v (i - length u) 0) (q (i - length u))
]

pub set_below : (b : ℕ) (l : List ℕ) (i v : ℕ) → Below b l → v < b → Below b (set l i v)
set_below b [] i v p h j = p j
set_below b (x ∷ xs) zero v p h zero = h
set_below b (x ∷ xs) zero v p h (suc j) = p (suc j)
set_below b (x ∷ xs) (suc i) v p h zero = p 0
set_below b (x ∷ xs) (suc i) v p h (suc j) = set_below b xs i v (λ k. p (suc k)) h j

-- ---- a list that is filled from the front: element i is f i
-- One element written at a: what then stands up to its end.
pub put_one : (w : List ℕ) (a b k : ℕ) → a < length w → k ≡ suc a → take k (set w a b) ≡ take a w ++ (b ∷ [])
put_one w a b k h e = ap (λ (z : ℕ). take z (set w a b)) e ∙ take-suc-set w a b h

pub fill_more : (t : List ℕ) (i : ℕ) (f : ℕ → ℕ) (v : ℕ) → i < length t → take i t ≡ tabulate i f → v ≡ f i
    → take (i + 1) (set t i v) ≡ tabulate (i + 1) f
fill_more t i f v h p q =
    put_one t i v (i + 1) h (add-one i)
    ∙ ap₂ (λ (l : List ℕ) (x : ℕ). l ++ (x ∷ [])) p q
    ∙ sym (tabulate_snoc i f)
    ∙ ap (λ (n : ℕ). tabulate n f) (sym (add-one i))

pub fill_all : (n : ℕ) (t : List ℕ) (i : ℕ) (f : ℕ → ℕ) → length t ≡ n → i ≡ n → take i t ≡ tabulate i f → t ≡ tabulate n f
fill_all n t i f l e p =
    sym (take_all n t (omega arith)) ∙ ap (λ (k : ℕ). take k t) (sym e) ∙ p ∙ ap (λ (k : ℕ). tabulate k f) e

-- ---- lists one after the other
pub concat_next : (n : ℕ) (t : ℕ → List ℕ) → concat (n + 1) t ≡ concat n t ++ t n
unfolding concat
concat_next n t = ap (λ (k : ℕ). concat k t) (add-one n)

-- The first k, and then l more.
pub concat_split : (k l : ℕ) (t : ℕ → List ℕ) → concat (k + l) t ≡ concat k t ++ concat l (λ i. t (k + i))
unfolding concat
concat_split k zero t = ap (λ (n : ℕ). concat n t) (add-zero k) ∙ sym (append-nil (concat k t))
concat_split k (suc l) t =
    let e : k + suc l ≡ suc (k + l) = omega arith in
    ap (λ (n : ℕ). concat n t) e
    ∙ ap (λ (u : List ℕ). u ++ t (k + l)) (concat_split k l t)
    ∙ append_assoc (concat k t) (concat l (λ i. t (k + i))) (t (k + l))

pub concat_same : (n : ℕ) (s t : ℕ → List ℕ) → ((i : ℕ) → i < n → s i ≡ t i) → concat n s ≡ concat n t
unfolding concat
concat_same zero s t e = refl
concat_same (suc n) s t e = ap₂ (λ u v. u ++ v) (concat_same n s t (λ i h. e i (omega arith))) (e n (omega arith))

pub concat_below : (b n : ℕ) (t : ℕ → List ℕ) → 0 < b → ((i : ℕ) → i < n → Below b (t i)) → Below b (concat n t)
unfolding concat
concat_below b zero t p h = λ i. p
concat_below b (suc n) t p h = append_below b (concat n t) (t n) (concat_below b n t p (λ i k. h i (omega arith))) (h n (omega arith))

module _ (w : ℕ) (t : ℕ → List ℕ) where
  pub length_concat : (n : ℕ) → ((i : ℕ) → i < n → length (t i) ≡ w) → length (concat n t) ≡ n * w
  unfolding concat
  length_concat zero l = sym (zero-mul w)
  length_concat (suc n) l =
      length-append (concat n t) (t n)
      ∙ ap₂ (λ (x y : ℕ). x + y) (length_concat n (λ i h. l i (omega arith))) (l n (omega arith))
      ∙ sym (suc-mul n w)

  -- Element j of list i.
  pub at_concat : (n : ℕ) → ((i : ℕ) → i < n → length (t i) ≡ w) → (i j : ℕ) → i < n → j < w → at (concat n t) (i * w + j) ≡ at (t i) j
  unfolding concat
  at_concat zero l i j h k = absurd (omega arith)
  at_concat (suc n) l i j h k = elim (dec_lt i n) [
    | yes p ↦
        get_or-append (concat n t) (t n) 0 (i * w + j)
        (subst (λ (x : ℕ). i * w + j < x) (sym (length_concat n (λ i h. l i (omega arith)))) (digits_lt p k))
        ∙ at_concat n (λ i h. l i (omega arith)) i j p k
    | no p ↦
        let e : i ≡ n = omega arith in
        ap (λ (x : ℕ). at (concat n t ++ t n) (x + j)) (ap (λ (x : ℕ). x * w) e ∙ sym (length_concat n (λ i h. l i (omega arith))))
        ∙ get_or-append-add (concat n t) (t n) j 0
        ∙ ap (λ (x : ℕ). at (t x) j) (sym e)
  ]

-- ---- a part of a list
pub drop_take : (a n : ℕ) (l : List ℕ) → drop a (take n l) ≡ take (n - a) (drop a l)
drop_take zero n l = ap (λ (k : ℕ). take k l) (let e : n ≡ n - 0 = omega arith in e)
drop_take (suc a) zero l = ap (λ (k : ℕ). take k (drop (suc a) l)) (let e : 0 ≡ 0 - suc a = omega arith in e)
drop_take (suc a) (suc n) [] = sym (take-nil (suc n - suc a))
drop_take (suc a) (suc n) (x ∷ xs) = drop_take a n xs ∙ ap (λ (k : ℕ). take k (drop a xs)) (let e : n - a ≡ suc n - suc a = omega arith in e)

-- from place `start` up to place `end`, as the code lends it
abbrev pub cut : List ℕ → ℕ → ℕ → List ℕ
cut l start end = take (end - start) (drop start l)

module _ (l : List ℕ) (start size : ℕ) where
  less : start + size - start ≡ size
  less = omega arith

  pub cut_is : cut l start (start + size) ≡ take size (drop start l)
  cut_is = ap (λ (x : ℕ). take x (drop start l)) less

  pub length_cut : start + size ≤ length l → length (cut l start (start + size)) ≡ size
  length_cut h = simp (length-take, length-drop) (omega (arith, less))

-- ---- a part that was lent and came back, k places from a on: what then stands up to its end
pub take_put : (a k e : ℕ) (xs ys : List ℕ) → a ≤ length xs → a + length ys ≡ e → take e (put_mid a k xs ys) ≡ take a xs ++ ys
take_put a k e xs ys h l =
    ap (take e) (sym (append_assoc (take a xs) ys (post_of a k xs)))
    ∙ take_at (take a xs ++ ys) (post_of a k xs) e (length-append (take a xs) ys ∙ ap (λ (n : ℕ). n + length ys) (length-take-le a xs h) ∙ l)
