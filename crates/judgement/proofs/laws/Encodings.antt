-- Laws, not definitions: the test for a repeated image, the loop that makes it, and that it is exact.
-- Assumes nothing.
use mathlib.Core.Bool.{Bool, true, false, ◌||◌, or-false, or_assoc}
use mathlib.Core.List.{List}
use mathlib.Core.Logic.{◌≢◌}
use mathlib.Core.Path.{◌≡◌, refl, sym, ap, ap₂, ◌∙◌, subst}
use Prim.Native.Nat.{ℕ, zero, suc, ◌+◌, ◌-◌, ◌*◌, ◌/◌, ◌%◌, ◌≤◌, ◌<◌}
use native.Mathlib.Decide.{ℕ_discrete, dec_lt}
use native.Mathlib.Nat.{zero-add, add-zero}
use native.Mathlib.Numerals.{add-one}
use native.Mathlib.Omega.{arith}
use lib.Bits.{bit_xor, bit_and}
use lib.Dec.{eqb}
use lib.ListN.{drop}
use lib.Seq.{get_or-take, get_or-drop}
use borrow.Author.Tests.{eq-eqb, ne_eqb, eqb-false}
use Rattle.answers.proofs.laws.Tests.{or_left, or_right, neither}
use Rattle.bits.specs.Bytes.{Bytes}
use Rattle.bits.specs.Encodings.{images_of, Permutation}
use Rattle.bits.specs.Lists.{at, part_of}
use Rattle.bits.specs.Nibbles.{nibble}
use Rattle.bits.specs.Vectors.{bit, unit}
use Rattle.bits.proofs.laws.Images.{image_at, images_long}
use Rattle.bits.proofs.laws.Nibbles.{nibble_lt}
use Rattle.bits.proofs.laws.Vectors.{bit_zero}
use Rattle.judgement.specs.Judge.{among, repeats, no_permutation}
use Rattle.judgement.proofs.laws.Marks.{mark_free, mark_set, turned_set, turned_other}

-- ---- the numbers met so far, marked in the bits of a number: bit y says whether y is among the first i
abbrev Marked : ℕ → (ℕ → ℕ) → ℕ → Type 0
Marked s f i = (y : ℕ) → y < 16 → eqb (bit 16 y s) 1 ≡ among i 0 f y

-- None at first.
marked_none : (f : ℕ → ℕ) → Marked 0 f 0
unfolding among
marked_none f y h = rw (bit_zero 16 y)

among_next : (k j : ℕ) (f : ℕ → ℕ) (x : ℕ) → among (suc k) j f x ≡ (among k j f x || eqb (f (j + k)) x)
unfolding among
among_next zero j f x = rw (add-zero j) (or-false (eqb (f j) x))
among_next (suc k) j f x =
    let e : suc j + k ≡ j + suc k = omega arith in
    ap (λ (b : Bool). eqb (f j) x || b) (among_next k (suc j) f x ∙ rw e)
    ∙ sym (or_assoc (eqb (f j) x) (among k (suc j) f x) (eqb (f (j + suc k)) x))

module _ (s : ℕ) (f : ℕ → ℕ) (i : ℕ) (h : f i < 16) (new : bit 16 (f i) s ≡ 0) (S : Marked s f i) where
  among_none_yet : among i 0 f (f i) ≡ false
  among_none_yet = sym (S (f i) h) ∙ rw new

  next : (y : ℕ) → among (i + 1) 0 f y ≡ (among i 0 f y || eqb (f i) y)
  next y = ap (λ (k : ℕ). among k 0 f y) (add-one i) ∙ among_next i 0 f y ∙ rw (zero-add i)

  marked_more : Marked (bit_xor s (unit 16 (f i))) f (i + 1)
  marked_more y k = elim (ℕ_discrete (f i) y) [
    | yes e ↦ subst (λ (z : ℕ). eqb (bit 16 z (bit_xor s (unit 16 (f i)))) 1 ≡ among (i + 1) 0 f z) e
        (rw (next (f i), turned_set s (f i) h new, among_none_yet, eq-eqb (f i) (f i) refl))
    | no e ↦ rw (next y, turned_other s (f i) h y k e, S y k, ne_eqb (f i) y e) (sym (or-false (among i 0 f y)))
  ]

-- ---- one turn of the loop over the images
module _ (m i : ℕ) (f : ℕ → ℕ) (h : i < m) where
  repeats_no : among i 0 f (f i) ≡ false → repeats (m - i) i f ≡ repeats (m - (i + 1)) (i + 1) f
  unfolding repeats
  repeats_no e = let k : m - i ≡ suc (m - (i + 1)) = omega arith in rw (k, e, add-one i)

  repeats_yes : among i 0 f (f i) ≡ true → repeats (m - i) i f ≡ true
  unfolding repeats
  repeats_yes e = let k : m - i ≡ suc (m - (i + 1)) = omega arith in rw (k, e)

repeats_end : (m i : ℕ) (f : ℕ → ℕ) → m ≤ i → repeats (m - i) i f ≡ false
unfolding repeats
repeats_end m i f h = let k : m - i ≡ 0 = omega arith in rw k

-- ---- only the numbers that are compared count
among_same : (k j : ℕ) (f g : ℕ → ℕ) (x y : ℕ) → x ≡ y → ((m : ℕ) → m < j + k → f m ≡ g m) → among k j f x ≡ among k j g y
unfolding among
among_same zero j f g x y e s = refl
among_same (suc k) j f g x y e s =
    ap₂ ◌||◌ (ap₂ eqb (s j (omega arith)) e) (among_same k (suc j) f g x y e (λ m h. s m (omega arith)))

repeats_same : (k i : ℕ) (f g : ℕ → ℕ) → ((m : ℕ) → m < i + k → f m ≡ g m) → repeats k i f ≡ repeats k i g
unfolding repeats
repeats_same zero i f g s = refl
repeats_same (suc k) i f g s =
    ap₂ ◌||◌ (among_same i 0 f g (f i) (g i) (s i (omega arith)) (λ m h. s m (omega arith))) (repeats_same k (suc i) f g (λ m h. s m (omega arith)))

-- ---- no repetition is that the numbers differ
among_none : (k j : ℕ) (f : ℕ → ℕ) (x : ℕ) → ((m : ℕ) → j ≤ m → m < j + k → f m ≡ x → ⊥) → among k j f x ≡ false
unfolding among
among_none zero j f x h = refl
among_none (suc k) j f x h =
    neither (eqb (f j) x) (among k (suc j) f x) (ne_eqb (f j) x (h j (omega arith) (omega arith)))
    (among_none k (suc j) f x (λ m a b. h m (omega arith) (omega arith)))

none_among : (k j : ℕ) (f : ℕ → ℕ) (x : ℕ) → among k j f x ≡ false → (m : ℕ) → j ≤ m → m < j + k → f m ≡ x → ⊥
unfolding among
none_among zero j f x e m a b = absurd (omega arith)
none_among (suc k) j f x e m a b = elim (ℕ_discrete j m) [
  | yes q ↦ subst (λ (z : ℕ). f z ≡ x → ⊥) q (eqb-false (f j) x (or_left (eqb (f j) x) (among k (suc j) f x) e))
  | no q ↦ none_among k (suc j) f x (or_right (eqb (f j) x) (among k (suc j) f x) e) m (omega arith) (omega arith)
]

repeats_none : (k i : ℕ) (f : ℕ → ℕ) → ((u v : ℕ) → u < v → i ≤ v → v < i + k → f u ≡ f v → ⊥) → repeats k i f ≡ false
unfolding repeats
repeats_none zero i f h = refl
repeats_none (suc k) i f h =
    neither (among i 0 f (f i)) (repeats k (suc i) f) (among_none i 0 f (f i) (λ m a b. h m i (omega arith) (omega arith) (omega arith)))
    (repeats_none k (suc i) f (λ u v a b c. h u v a (omega arith) (omega arith)))

none_repeats : (k i : ℕ) (f : ℕ → ℕ) → repeats k i f ≡ false → (u v : ℕ) → u < v → i ≤ v → v < i + k → f u ≡ f v → ⊥
unfolding repeats
none_repeats zero i f e u v a b c = absurd (omega arith)
none_repeats (suc k) i f e u v a b c = elim (ℕ_discrete i v) [
  | yes q ↦ subst (λ (z : ℕ). f u ≡ f z → ⊥) q (none_among i 0 f (f i) (or_left (among i 0 f (f i)) (repeats k (suc i) f) e) u (omega arith) (omega arith))
  | no q ↦ none_repeats k (suc i) f (or_right (among i 0 f (f i)) (repeats k (suc i) f) e) u v a (omega arith) (omega arith)
]

-- Image i of list n, in the section s that holds the lists; and that list n is no permutation.
abbrev pub image_in : List ℕ → ℕ → ℕ → ℕ
image_in s n i = nibble s (n * 16 + i)

abbrev pub bad_in : List ℕ → ℕ → Bool
bad_in s n = no_permutation (part_of 8 s n)

nibble_part : (s : List ℕ) (n i : ℕ) → i < 16 → nibble (part_of 8 s n) i ≡ image_in s n i
unfolding nibble part_of
nibble_part s n i h =
    let a : (n * 16 + i) / 2 ≡ n * 8 + i / 2 = omega arith in
    let b : (n * 16 + i) % 2 ≡ i % 2 = omega arith in
    rw (a, b, get_or-take 8 (drop (n * 8) s) (i / 2) 0 (omega arith), get_or-drop (n * 8) s (i / 2) 0)

in_section : (s : List ℕ) (n : ℕ) → bad_in s n ≡ repeats (16 - 0) 0 (image_in s n)
unfolding no_permutation
in_section s n =
    repeats_same 16 0 (at (images_of (part_of 8 s n))) (image_in s n) (λ i h. image_at (part_of 8 s n) i (omega arith) ∙ nibble_part s n i (omega arith))

-- The loop's invariant: the first i images of list n differ, `met` marks them, and the images left decide.
pub record Imaged (l : List ℕ) (n met i : ℕ) : Type 0 where
  pub within : i ≤ 16
  pub same : bad_in l n ≡ repeats (16 - i) i (image_in l n)
  pub marks : Marked met (image_in l n) i

pub imaged_none : (l : List ℕ) (n : ℕ) → Imaged l n 0 0
imaged_none l n = record { within = omega arith; same = in_section l n; marks = marked_none (image_in l n) }

-- Image i, which is x, is tested by its mark.
module _ {l : List ℕ} {n met i x mark : ℕ} (I : Imaged l n met i) (h : i < 16) (image : (x ≡ image_in l n i) × (x < 16)) (e : mark ≡ unit 16 x) where
  abbrev f : ℕ → ℕ
  f = image_in l n

  small : f i < 16
  small = subst (λ (z : ℕ). z < 16) image.0 image.1

  marked : mark ≡ unit 16 (f i)
  marked = e ∙ ap (unit 16) image.0

  pub imaged_here : bit_and met mark ≢ 0 → true ≡ bad_in l n
  imaged_here hit =
      let set : bit 16 (f i) met ≡ 1 = mark_set met (f i) small (λ z. hit (ap (bit_and met) marked ∙ z)) in
      let before : among i 0 f (f i) ≡ true = sym (I.marks (f i) small) ∙ rw set in
      sym (I.same ∙ repeats_yes 16 i f h before)

  pub imaged_next : bit_and met mark ≡ 0 → Imaged l n (bit_xor met mark) (i + 1)
  imaged_next free =
      let new : bit 16 (f i) met ≡ 0 = mark_free met (f i) small (ap (bit_and met) (sym marked) ∙ free) in
      record {
        within = omega arith;
        same = I.same ∙ repeats_no 16 i f h (among_none_yet met f i small new I.marks);
        marks = subst (λ (z : ℕ). Marked (bit_xor met z) f (i + 1)) (sym marked) (marked_more met f i small new I.marks);
      }

pub imaged_all : {l : List ℕ} {n met i : ℕ} → Imaged l n met i → 16 ≤ i → false ≡ bad_in l n
imaged_all {l} {n} {i = i} I h = sym (I.same ∙ repeats_end 16 i (image_in l n) h)

-- ---- the test is exact
pub good_permutation : (p : List ℕ) → Bytes p → no_permutation p ≡ false → Permutation (images_of p)
unfolding no_permutation
good_permutation p bytes e = record {
  long = images_long p;
  below = λ v h. rw (image_at p v h) (nibble_lt p bytes v);
  apart = λ u v hu hv q.
      let f = at (images_of p) in
      let d : (u v : ℕ) → u < v → v < 16 → f u ≡ f v → ⊥ = λ u v a b. none_repeats 16 0 f e u v a (omega arith) (omega arith) in
      elim (dec_lt u v) [
        | yes a ↦ absurd (d u v a hv q)
        | no a ↦ elim (dec_lt v u) [
          | yes b ↦ absurd (d v u b hu (sym q))
          | no b ↦ omega arith
        ]
      ];
}

pub permutation_good : (p : List ℕ) → Permutation (images_of p) → no_permutation p ≡ false
unfolding no_permutation
permutation_good p P = repeats_none 16 0 (at (images_of p)) (λ u v a b c q.
    let e : u ≡ v = P.apart u v (omega arith) (omega arith) q in omega arith)
