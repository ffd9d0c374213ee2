-- Laws, not definitions: the spread area, changed in place.
-- Assumes nothing.
use mathlib.Core.List.{List}
use mathlib.Core.Path.{◌≡◌, sym, ap, ap₂, ◌∙◌}
use Prim.Native.Nat.{ℕ, ◌+◌, ◌*◌, ◌/◌, ◌%◌, ◌<◌}
use native.Mathlib.Omega.{arith}
use lib.ListN.{length, set}
use lib.Seq.{get_or-set_same, get_or-set_other, set-set}
use Rattle.bits.specs.Lists.{at}
use Rattle.bits.specs.Nibbles.{pack, half, nibble, set_nibble}
use Rattle.bits.proofs.laws.Nibbles.{nibble_even, nibble_odd}
use Rattle.lookups.specs.InPlace.{with_half, XorRead, PairRead, xor_byte}

-- ---- one nibble of byte i replaced
set_high : (l : List ℕ) (i v : ℕ) → set_nibble l (2 * i) v ≡ set l i (pack v (at l i % 16))
unfolding set_nibble
set_high l i v =
    let e : 2 * i % 2 ≡ 0 = omega arith in
    let f : 2 * i / 2 ≡ i = omega arith in
    rw (e, f)

set_low : (l : List ℕ) (i v : ℕ) → set_nibble l (2 * i + 1) v ≡ set l i (pack (at l i / 16) v)
unfolding set_nibble
set_low l i v =
    let e : (2 * i + 1) % 2 ≡ 1 = omega arith in
    let f : (2 * i + 1) / 2 ≡ i = omega arith in
    rw (e, f)

-- Both nibbles of a byte at once are the high one and then the low one: the first lookup changes nothing that the second reads.
module _ (high low a : List ℕ) (s d : ℕ) (h : s < length a) (n : d ≡ s → ⊥) where
  v : ℕ
  v = nibble high (pack (at a s / 16) (at a d / 16))

  b : List ℕ
  b = set a s (pack v (at a s % 16))

  high_done : set_nibble a (2 * s) (nibble high (pack (nibble a (2 * s)) (nibble a (2 * d)))) ≡ b
  unfolding v b
  high_done = rw (nibble_even a s, nibble_even a d) (set_high a s v)

  sum_now : at b s ≡ pack v (at a s % 16)
  unfolding b
  sum_now = get_or-set_same a s (pack v (at a s % 16)) 0 h

  added_now : at b d ≡ at a d
  unfolding b
  added_now = get_or-set_other a s d (pack v (at a s % 16)) 0 n

  -- The entry that the second reads goes by the low nibbles as they were.
  low_entry : pack (nibble b (2 * s + 1)) (nibble b (2 * d + 1)) ≡ pack (at a s % 16) (at a d % 16)
  low_entry =
      let f : pack v (at a s % 16) % 16 ≡ at a s % 16 = omega arith in
      rw (nibble_odd b s, nibble_odd b d, sum_now, added_now, f)

  low_done : set_nibble b (2 * s + 1) (nibble low (pack (nibble b (2 * s + 1)) (nibble b (2 * d + 1)))) ≡ xor_byte high low s d a
  unfolding xor_byte
  low_done =
      let w : ℕ = nibble low (pack (at a s % 16) (at a d % 16)) in
      let e : pack v (at a s % 16) / 16 ≡ v = omega arith in
      rw low_entry (set_low b s w ∙ rw (sum_now, e) (unfold v b in set-set a s (pack v (at a s % 16)) (pack v w)))

  -- Where the first lookup left the list c.
  module _ (c : List ℕ) (e : c ≡ set_nibble a (2 * s) (nibble high (pack (nibble a (2 * s)) (nibble a (2 * d))))) where
    pub both_entry : pack (at a s % 16) (at a d % 16) ≡ pack (nibble c (2 * s + 1)) (nibble c (2 * d + 1))
    both_entry = sym (ap (λ (c : List ℕ). pack (nibble c (2 * s + 1)) (nibble c (2 * d + 1))) (e ∙ high_done) ∙ low_entry)

    pub xor_both : xor_byte high low s d a ≡ set_nibble c (2 * s + 1) (nibble low (pack (nibble c (2 * s + 1)) (nibble c (2 * d + 1))))
    xor_both =
        sym
        (ap (λ (c : List ℕ). set_nibble c (2 * s + 1) (nibble low (pack (nibble c (2 * s + 1)) (nibble c (2 * d + 1))))) (e ∙ high_done)
        ∙ low_done)

-- ---- an XOR lookup, from what the calls of the code ensure: p and q are the nibbles read, e the entry that they pick, v the nibble there, w the byte that is written
pub xor_read : {t a : List ℕ} {s d p q e v w : ℕ} → p ≡ half (s % 2) (at a (s / 2)) → q ≡ half (d % 2) (at a (d / 2)) → e ≡ pack p q → e < 256 → v ≡ nibble t e
    → w ≡ with_half (at a (s / 2)) s v → XorRead t s d a e (set a (s / 2) w)
unfolding nibble set_nibble
xor_read {a = a} {s} f g h b i j =
    record { entry = h ∙ ap₂ pack f g; below = b; area = ap (set a (s / 2)) (j ∙ ap (with_half (at a (s / 2)) s) i) }

-- Two in a row: p and q are the high nibbles, n the first entry and h its nibble, r and t the low nibbles, e the second entry and l its nibble.
pub pair_read : {high low a : List ℕ} {s d p q n h r t e l v : ℕ} → p ≡ half 0 (at a s) → q ≡ half 0 (at a d) → n ≡ pack p q → h ≡ nibble high n
    → r ≡ half 1 (at a s) → t ≡ half 1 (at a d) → e ≡ pack r t → e < 256 → l ≡ nibble low e → v ≡ pack h l → PairRead high low s d a e (set a s v)
unfolding xor_byte
pair_read {high} {low} {a} {s} f g i j f' g' i' b j' k =
    record {
      entry = i' ∙ ap₂ pack f' g';
      below = b;
      area = ap (set a s) (k ∙ ap₂ pack (j ∙ ap (nibble high) (i ∙ ap₂ pack f g)) (j' ∙ ap (nibble low) (i' ∙ ap₂ pack f' g')));
    }
