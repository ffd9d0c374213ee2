-- Laws, not definitions: nibbles and the images of an encoding as the code reads them, and its search for an image.
-- Assumes nothing.
use mathlib.Core.Bool.{cond}
use mathlib.Core.List.{List, ◌∷◌}
use mathlib.Core.Path.{◌≡◌, refl, sym, ap, ◌∙◌}
use Prim.Native.Nat.{ℕ, zero, suc, ◌+◌, ◌/◌, ◌%◌, ◌≤◌, ◌<◌}
use native.Mathlib.Nat.{zero-add}
use native.Mathlib.Numerals.{add-one}
use native.Mathlib.Omega.{arith}
use lib.Dec.{eqb}
use lib.ListN.{length, drop, drop_of_length-le}
use lib.Seq.{drop-cons}
use borrow.Author.Tests.{eq-eqb, ne_eqb}
use Rattle.bits.specs.Bytes.{Bytes}
use Rattle.bits.specs.Encodings.{images_of, encoding_bytes, decode}
use Rattle.bits.specs.Lists.{at}
use Rattle.bits.specs.Nibbles.{half, nibble}
use Rattle.bits.proofs.laws.Lists.{length_tabulate, at_tabulate, at_past, Below, ext_at}
use Rattle.bits.proofs.laws.Nibbles.{length_packed, nibble_packed, packed_bytes}

-- ---- nibbles, as the code reads them
pub nibble_past : (s : List ℕ) (q : ℕ) → length s ≤ q / 2 → nibble s q ≡ 0
unfolding nibble
nibble_past s q h = rw (at_past s (q / 2) h) (half_zero (q % 2))
  where
    half_zero : (r : ℕ) → half r 0 ≡ 0
    half_zero zero = refl
    half_zero (suc r) = refl

pub nibble_high : (s : List ℕ) (q : ℕ) → q % 2 ≡ 0 → nibble s q ≡ at s (q / 2) / 16
unfolding nibble
nibble_high s q e = rw e

pub nibble_low : (s : List ℕ) (q : ℕ) → (q % 2 ≡ 0 → ⊥) → nibble s q ≡ at s (q / 2) % 16
unfolding nibble
nibble_low s q e = let o : q % 2 ≡ 1 = omega arith in rw o

-- ---- images
pub image_at : (p : List ℕ) (i : ℕ) → i < 16 → at (images_of p) i ≡ nibble p i
unfolding images_of
image_at p i h = at_tabulate 16 (nibble p) i h

pub images_long : (p : List ℕ) → length (images_of p) ≡ 16
unfolding images_of
images_long p = length_tabulate 16 (nibble p)

pub image_past : (p : List ℕ) (v : ℕ) → 16 ≤ v → 0 ≡ at (images_of p) v
image_past p v h = sym (at_past (images_of p) v (omega (arith, images_long p)))

pub image_read : (p : List ℕ) (v q r : ℕ) → v < 16 → q ≡ v → r ≡ nibble p q → r ≡ at (images_of p) v
image_read p v q r h e f = f ∙ ap (nibble p) e ∙ sym (image_at p v h)

-- ---- an encoding as 8 bytes: they write its 16 images, and these are nibbles
pub length_encoding_bytes : (l : List ℕ) → length (encoding_bytes l) ≡ 8
unfolding encoding_bytes
length_encoding_bytes l = length_packed 8 (at l)

module _ (l : List ℕ) (small : Below 16 l) where
  pub encoding_bytes_bytes : Bytes (encoding_bytes l)
  unfolding encoding_bytes
  encoding_bytes_bytes = packed_bytes 8 (at l) (λ j h. small j)

  pub images_written : length l ≡ 16 → images_of (encoding_bytes l) ≡ l
  unfolding encoding_bytes
  images_written e =
      ext_at 16 (images_of (encoding_bytes l)) l (images_long (encoding_bytes l)) e (λ i h.
      image_at (encoding_bytes l) i h ∙ nibble_packed 8 (at l) small i h)

-- ---- the search for an image, from place i on: the image of i is y, or the first that is y is found behind it
pub decode_next : (l : List ℕ) (i : ℕ) → i < length l → (y : ℕ)
    → decode (drop i l) y ≡ cond (eqb (at l i) y) zero (suc (decode (drop (i + 1) l) y))
unfolding decode
decode_next l i h y = ap (λ (t : List ℕ). decode t y) (drop-cons l i 0 h ∙ ap (λ (n : ℕ). at l i ∷ drop n l) (sym (add-one i)))

-- The loop's invariant: of the first i images none is y, so the first one that is y is found among the others.
pub record Passed (p : List ℕ) (y i : ℕ) : Type 0 where
  pub within : i ≤ 16
  pub others : decode (images_of p) y ≡ i + decode (drop i (images_of p)) y

pub passed_none : {p : List ℕ} {y : ℕ} → Passed p y 0
passed_none {p} {y} = record { within = omega arith; others = sym (zero-add (decode (images_of p) y)) }

next : (p : List ℕ) (y i : ℕ) → i < 16 → decode (drop i (images_of p)) y ≡ cond (eqb (at (images_of p) i) y) zero (suc (decode (drop (i + 1) (images_of p)) y))
next p y i h = decode_next (images_of p) i (omega (arith, images_long p)) y

module _ {p : List ℕ} {y i : ℕ} (g : Passed p y i) where
  pub passed_more : {x : ℕ} → i < 16 → x ≡ at (images_of p) i → (x ≡ y → ⊥) → Passed p y (i + 1)
  passed_more h e ne =
      let one : decode (drop i (images_of p)) y ≡ suc (decode (drop (i + 1) (images_of p)) y) =
      next p y i h ∙ rw (ne_eqb (at (images_of p) i) y (λ q. ne (e ∙ q))) in
      record { within = omega arith; others = omega (arith, g.others) }

  pub passed_here : {x : ℕ} → i < 16 → x ≡ at (images_of p) i → x ≡ y → i ≡ decode (images_of p) y
  passed_here h e f =
      let none : decode (drop i (images_of p)) y ≡ 0 = next p y i h ∙ rw (eq-eqb (at (images_of p) i) y (sym e ∙ f)) in
      omega (arith, g.others)

  pub passed_all : 16 ≤ i → 16 ≡ decode (images_of p) y
  unfolding decode
  passed_all h =
      let none : decode (drop i (images_of p)) y ≡ 0 =
      ap (λ (l : List ℕ). decode l y) (drop_of_length-le (images_of p) {i = i} (omega (arith, images_long p))) in
      omega (arith, g.others)
