-- Laws, not definitions: what undoes an encoding that is a permutation, when each of its nibbles is written at its image, a byte's two in a turn.
-- Assumes nothing.
use mathlib.Core.List.{List}
use mathlib.Core.Path.{◌≡◌, sym, ap, ◌∙◌}
use Prim.Native.Nat.{ℕ, ◌+◌, ◌*◌, ◌/◌, ◌%◌, ◌≤◌, ◌<◌}
use native.Mathlib.Decide.{dec_lt, ℕ_discrete}
use native.Mathlib.Omega.{arith}
use lib.ListN.{length, set, length-set}
use lib.Seq.{get_or-set_same, get_or-set_other}
use Rattle.bits.specs.Encodings.{images_of, decode, Permutation}
use Rattle.bits.specs.Lists.{at, tabulate}
use Rattle.bits.proofs.laws.Encodings.{decode_lt, encode_decode}
use Rattle.bits.proofs.laws.Images.{image_at, nibble_past}
use Rattle.bits.proofs.laws.Lists.{at_tabulate, length_tabulate, ext_at}
use Rattle.bits.proofs.laws.Nibbles.{nibble_even, nibble_odd}

-- A permutation is written by at least 8 bytes: else its last two images are both 0.
pub permutation_long : (p : List ℕ) → Permutation (images_of p) → 8 ≤ length p
permutation_long p permutes = elim (dec_lt (length p) 8) [
  | yes short ↦
      let none : (q : ℕ) → 14 ≤ q → q < 16 → at (images_of p) q ≡ 0 = λ q g h. image_at p q h ∙ nibble_past p q (omega arith) in
      absurd (omega (arith, permutes.apart 14 15 (omega arith) (omega arith) (none 14 (omega arith) (omega arith) ∙ sym (none 15 (omega arith) (omega arith)))))
  | no long ↦ omega arith
]

-- The loop's invariant: the first 2 i nibbles stand at their images.
pub record Undone (p t : List ℕ) (i : ℕ) : Type 0 where
  pub within : i ≤ 8
  pub long : length t ≡ 16
  pub found : (v : ℕ) → v < 2 * i → at t (at (images_of p) v) ≡ v

pub undone_none : {p t : List ℕ} → length t ≡ 16 → Undone p t 0
undone_none long = record { within = omega arith; long = long; found = λ v h. absurd (omega arith) }

module _ {p t : List ℕ} {i : ℕ} (permutes : Permutation (images_of p)) (I : Undone p t i) where
  -- One nibble more, where those before it stand at theirs.
  one_more : (t : List ℕ) (n y : ℕ) → n < 16 → length t ≡ 16 → y ≡ at (images_of p) n → ((v : ℕ) → v < n → at t (at (images_of p) v) ≡ v)
      → (v : ℕ) → v < n + 1 → at (set t y n) (at (images_of p) v) ≡ v
  one_more t n y small long e before v h = elim (ℕ_discrete v n) [
    | yes here ↦
        ap (λ (k : ℕ). at (set t y n) (at (images_of p) k)) here
        ∙ ap (at (set t y n)) (sym e)
        ∙ get_or-set_same t y n 0 (omega (arith, permutes.below n small))
        ∙ sym here
    | no other ↦
        get_or-set_other t y (at (images_of p) v) n 0 (λ same. other (permutes.apart v n (omega arith) small (same ∙ e)))
        ∙ before v (omega arith)
  ]

  pub undone_more : {high low : ℕ} → i < 8 → high ≡ at p i / 16 → low ≡ at p i % 16 → Undone p (set (set t high (2 * i)) low (2 * i + 1)) (i + 1)
  undone_more {high} {low} h eh el =
      let even = eh ∙ sym (image_at p (2 * i) (omega arith) ∙ nibble_even p i) in
      let odd = el ∙ sym (image_at p (2 * i + 1) (omega arith) ∙ nibble_odd p i) in
      let once = one_more t (2 * i) high (omega arith) I.long even I.found in
      let long = length-set t high (2 * i) ∙ I.long in
      record {
        within = omega arith;
        long = length-set (set t high (2 * i)) low (2 * i + 1) ∙ long;
        found = λ v l. one_more (set t high (2 * i)) (2 * i + 1) low (omega arith) long odd once v (omega arith);
      }

  pub undone_all : 8 ≤ i → t ≡ tabulate 16 (decode (images_of p))
  undone_all h =
      ext_at 16 t _ I.long (length_tabulate 16 _) (λ y l.
      let v = decode (images_of p) y in
      let small = decode_lt (images_of p) permutes y l in
      ap (at t) (sym (encode_decode (images_of p) permutes y l)) ∙ I.found v (omega arith) ∙ sym (at_tabulate 16 (decode (images_of p)) y l))
