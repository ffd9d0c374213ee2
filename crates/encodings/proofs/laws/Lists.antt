-- Laws, not definitions: lists of images and of what undoes them, and the bytes that are decoded by these.
-- Assumes nothing.
use mathlib.Core.List.{List}
use mathlib.Core.Path.{◌≡◌, sym, ap, ap₂, ◌∙◌, subst}
use Prim.Native.Nat.{ℕ, ◌+◌, ◌*◌, ◌/◌, ◌%◌, ◌<◌}
use native.Mathlib.Decide.{dec_lt}
use native.Mathlib.Nat.{div-add-mod', div-lt_iff_lt-mul, mod-lt}
use native.Mathlib.Omega.{arith}
use lib.ListN.{length, set}
use Rattle.bits.specs.Bytes.{Bytes}
use Rattle.bits.specs.Encodings.{images_of, decode, Permutation}
use Rattle.bits.specs.Lists.{at, tabulate, concat, part_of}
use Rattle.bits.specs.Nibbles.{pack, nibble}
use Rattle.bits.proofs.laws.Encodings.{decode_lt}
use Rattle.bits.proofs.laws.Filled.{Filled, filled_more}
use Rattle.bits.proofs.laws.Images.{images_long}
use Rattle.bits.proofs.laws.Lists.{at_tabulate, at_past, length_tabulate, tabulate_ext, at_concat, length_concat, ext_at}
use Rattle.bits.proofs.laws.Nibbles.{nibble_lt, nibble_even, nibble_odd}
use Rattle.encodings.specs.Encodings.{encoding_in, Nibbles, by_nibbles}

-- The images of bytes are nibbles.
pub images_below : (s : List ℕ) → Bytes s → (v : ℕ) → at (images_of s) v < 16
unfolding images_of
images_below s bytes v = elim (dec_lt v 16) [
  | yes h ↦ subst (λ (x : ℕ). x < 16) (sym (at_tabulate 16 (nibble s) v h)) (nibble_lt s bytes v)
  | no h ↦ subst (λ (x : ℕ). x < 16) (sym (at_past (tabulate 16 (nibble s)) v (omega (arith, length_tabulate 16 (nibble s))))) (omega arith)
]

-- A turn of the loop that lists the nibbles of p, a byte's two.
pub two_more : (p : List ℕ) {t : List ℕ} {i : ℕ} → Filled 16 (nibble p) t (2 * i) → i < 8
    → Filled 16 (nibble p) (set (set t (2 * i) (at p i / 16)) (2 * i + 1) (at p i % 16)) (2 * (i + 1))
two_more p {t} {i} I h =
    let both : 2 * i + 1 + 1 ≡ 2 * (i + 1) = omega arith in
    subst (Filled 16 (nibble p) (set (set t (2 * i) (at p i / 16)) (2 * i + 1) (at p i % 16))) both
    (filled_more (filled_more I (omega arith) (sym (nibble_even p i))) (omega arith) (sym (nibble_odd p i)))

-- What undoes an encoding, as a list.
module _ (l a : List ℕ) (e : a ≡ tabulate 16 (decode l)) where
  pub place_at : (i : ℕ) → i < 16 → at a i ≡ decode l i
  place_at i h = ap (λ (t : List ℕ). at t i) e ∙ at_tabulate 16 (decode l) i h

  place_below : Permutation l → (i : ℕ) → i < 16 → at a i < 16
  place_below p i h = subst (λ (x : ℕ). x < 16) (sym (place_at i h)) (decode_lt l p i h)

-- ---- rows one after the other, n of w places each
pub in_rows : (n w : ℕ) (g : ℕ → ℕ → ℕ) → 0 < w → concat n (λ i. tabulate w (g i)) ≡ tabulate (n * w) (λ x. g (x / w) (x % w))
in_rows n w g some =
    ext_at (n * w) _ _ (length_concat w rows n long) (length_tabulate (n * w) _)
    (λ k h.
    let row = (div-lt_iff_lt-mul {k = w} {x = k} {y = n} some).1 h in
    ap (at (concat n rows)) (sym (div-add-mod' k w))
    ∙ at_concat w rows n long (k / w) (k % w) row (mod-lt k some)
    ∙ at_tabulate w (g (k / w)) (k % w) (mod-lt k some)
    ∙ sym (at_tabulate (n * w) (λ x. g (x / w) (x % w)) k h))
  where
    rows : ℕ → List ℕ
    rows i = tabulate w (g i)

    long : (i : ℕ) → i < n → length (rows i) ≡ w
    long i h = length_tabulate w (g i)

-- All bytes are 16 rows of 16.
pub rows_tabulated : (g : ℕ → ℕ → ℕ) → concat 16 (λ i. tabulate 16 (g i)) ≡ tabulate 256 (λ x. g (x / 16) (x % 16))
rows_tabulated g = in_rows 16 16 g (omega arith)

-- ---- lists that are made from the encodings' parts of their section
pub images_nibbles : (s part images : List ℕ) (n : ℕ) → Permutation (encoding_in s n) → part ≡ part_of 8 s n → images ≡ images_of part → Nibbles 16 images
images_nibbles s part images n permutes p e = record {
  long = omega (arith, ap length e ∙ images_long part);
  small = λ v h. rw (e, p) (permutes.below v h);
}

pub places_nibbles : (s part places : List ℕ) (n : ℕ) → Permutation (encoding_in s n) → part ≡ part_of 8 s n → places ≡ tabulate 16 (decode (images_of part))
    → Nibbles 16 places
places_nibbles s part places n permutes p e = record {
  long = omega (arith, ap length e ∙ length_tabulate 16 _);
  small = place_below (encoding_in s n) places (rw p at e) permutes;
}

-- Every byte decoded, from the lists that undo the encodings of its nibbles.
pub bytes_decoded : (s : List ℕ) (high low : ℕ) (a' b' a b dst : List ℕ)
    → a' ≡ part_of 8 s high
    → a ≡ tabulate 16 (decode (images_of a'))
    → b' ≡ part_of 8 s low
    → b ≡ tabulate 16 (decode (images_of b'))
    → dst ≡ tabulate 256 (by_nibbles a b)
    → dst ≡ tabulate 256 (λ x. pack (decode (encoding_in s high) (x / 16)) (decode (encoding_in s low) (x % 16)))
bytes_decoded s high low a' b' a b dst pa ea pb eb e =
    e
    ∙ tabulate_ext 256 _ _ (λ x h. ap₂ pack
    (place_at (encoding_in s high) a (rw pa at ea) (x / 16) (omega arith))
    (place_at (encoding_in s low) b (rw pb at eb) (x % 16) (omega arith)))
