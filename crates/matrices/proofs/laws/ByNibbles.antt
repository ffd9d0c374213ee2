-- Laws, not definitions: the word of a byte is linear in it, so it is the xor of the words of its nibbles.
-- Assumes nothing.
use mathlib.Core.List.{List}
use mathlib.Core.Path.{◌≡◌, sym, ap, ap₂, ◌∙◌}
use Prim.Native.Nat.{ℕ, zero, suc, ◌+◌, ◌*◌, ◌/◌, ◌%◌, ◌^◌, ◌<◌}
use native.Mathlib.Decide.{dec_lt}
use native.Mathlib.Nat.{zero-mul, one-mul}
use native.Mathlib.Omega.{arith}
use borrow.Author.Tests.{lt-ltb, le-ltb}
use lib.Bits.{bit_xor, xor_self, xor_zero_l, xor_zero_r, xor_comm, xor_disjoint, and_shifted}
use lib.ListN.{length}
use Rattle.bits.specs.Groups.{xor_all}
use Rattle.bits.specs.Vectors.{dot}
use Rattle.bits.proofs.laws.Vectors.{dot_power, dot_xor, dot_lt}
use Rattle.bits.proofs.laws.Xor.{Linear, two}
use Rattle.bits.proofs.laws.XorAll.{linear_xor_all, xor_all_same, xor_all_split, xor_all_zero}
use Rattle.matrices.specs.ByNibbles.{combined, nibble_byte, word_in}
use Rattle.matrices.specs.Rows.{row_at, stored}
use Rattle.matrices.proofs.laws.Rows.{row_stored}

-- ---- the xor of eight words
scale_xor : (c a b : ℕ) → a < 2 → b < 2 → (a + b) % 2 * c ≡ bit_xor (a * c) (b * c)
scale_xor c a b h k =
    two (λ (a : ℕ). (b : ℕ) → b < 2 → (a + b) % 2 * c ≡ bit_xor (a * c) (b * c))
    (λ b k. two (λ (b : ℕ). (0 + b) % 2 * c ≡ bit_xor (0 * c) (b * c)) (zeros c) (left c) b k)
    (λ b k. two (λ (b : ℕ). (1 + b) % 2 * c ≡ bit_xor (1 * c) (b * c)) (right c) (both c) b k) a h b k
  where
    zeros : (c : ℕ) → 0 * c ≡ bit_xor (0 * c) (0 * c)
    zeros c = rw zero-mul (sym (xor_self 0))

    left : (c : ℕ) → 1 * c ≡ bit_xor (0 * c) (1 * c)
    left c = rw (zero-mul, one-mul) (sym (xor_zero_l c))

    right : (c : ℕ) → 1 * c ≡ bit_xor (1 * c) (0 * c)
    right c = rw (zero-mul, one-mul) (sym (xor_zero_r c))

    both : (c : ℕ) → 0 * c ≡ bit_xor (1 * c) (1 * c)
    both c = rw (zero-mul, one-mul) (sym (xor_self c))

bit_linear : (i c : ℕ) → Linear (λ y. (y / 2 ^ i % 2) * c)
bit_linear i c x y =
    ap (λ (b : ℕ). b * c) (sym (dot_power i (bit_xor x y)) ∙ dot_xor (2 ^ i) x y)
    ∙ scale_xor c (dot (2 ^ i) x) (dot (2 ^ i) y) (dot_lt (2 ^ i) x) (dot_lt (2 ^ i) y)
    ∙ ap₂ (λ (a b : ℕ). bit_xor (a * c) (b * c)) (dot_power i x) (dot_power i y)

pub combined_linear : (f : ℕ → ℕ) → Linear (combined f)
unfolding combined
combined_linear f = linear_xor_all 8 (λ i y. (y / 2 ^ i % 2) * f i) (λ i. bit_linear i (f i))

-- ---- the nibbles of a byte
of_nibbles : (y : ℕ) → bit_xor (y % 16) (y / 16 * 16) ≡ y
of_nibbles y =
    xor_comm (y % 16) (y / 16 * 16) ∙ xor_disjoint (y / 16 * 16) (y % 16) (and_shifted (y / 16) 4 (y % 16) (omega arith)) ∙ omega arith

nibble_byte_low : (v : ℕ) → v < 16 → nibble_byte v ≡ v
unfolding nibble_byte
nibble_byte_low v h = rw (lt-ltb v 16 h)

nibble_byte_high : (v : ℕ) → nibble_byte (16 + v) ≡ v * 16
unfolding nibble_byte
nibble_byte_high v = rw (le-ltb (16 + v) 16 (omega arith)) (ap (λ (x : ℕ). x * 16) (omega arith))

-- What is linear in a byte is the xor of what it is of the two bytes with one nibble.
nibbles_add_up : (u : ℕ → ℕ) → Linear u → (y : ℕ) → bit_xor (u (nibble_byte (y % 16))) (u (nibble_byte (16 + y / 16))) ≡ u y
nibbles_add_up u linear y =
    ap₂ (λ (a b : ℕ). bit_xor (u a) (u b)) (nibble_byte_low (y % 16) (omega arith)) (nibble_byte_high (y / 16))
    ∙ sym (linear (y % 16) (y / 16 * 16))
    ∙ ap u (of_nibbles y)

-- ---- the words of the bytes with one nibble
four : (P : ℕ → Type 0) → P 0 → P 1 → P 2 → P 3 → (i : ℕ) → i < 4 → P i
four P a b c d zero h = a
four P a b c d (suc zero) h = b
four P a b c d (suc (suc zero)) h = c
four P a b c d (suc (suc (suc zero))) h = d
four P a b c d (suc (suc (suc (suc i)))) h = absurd (omega arith)

-- The bits of such a byte: a low nibble has none from bit 4 on, a high one none below, and from bit 4 on those of the nibble.
none_above : (v i : ℕ) → v < 16 → i < 4 → v / 2 ^ (4 + i) % 2 ≡ 0
none_above v i h = four (λ i. v / 2 ^ (4 + i) % 2 ≡ 0) (omega arith) (omega arith) (omega arith) (omega arith) i

none_below : (v i : ℕ) → i < 4 → v * 16 / 2 ^ i % 2 ≡ 0
none_below v i = four (λ i. v * 16 / 2 ^ i % 2 ≡ 0) (omega arith) (omega arith) (omega arith) (omega arith) i

high_bit : (v i : ℕ) → i < 4 → v * 16 / 2 ^ (4 + i) % 2 ≡ v / 2 ^ i % 2
high_bit v i = four (λ i. v * 16 / 2 ^ (4 + i) % 2 ≡ v / 2 ^ i % 2) (omega arith) (omega arith) (omega arith) (omega arith) i

module _ (f : ℕ → ℕ) where
  -- terms at bits that are 0
  no_terms : (b : ℕ → ℕ) (g : ℕ → ℕ) → ((i : ℕ) → i < 4 → b i ≡ 0) → xor_all 4 (λ i. b i * g i) ≡ 0
  no_terms b g z = xor_all_same 4 _ (λ _. 0) (λ i h. ap (λ (x : ℕ). x * g i) (z i h) ∙ zero-mul (g i)) ∙ xor_all_zero 4

  low_combined : (v : ℕ) → v < 16 → xor_all 4 (λ i. (v / 2 ^ i % 2) * f i) ≡ combined f v
  unfolding combined
  low_combined v h =
      sym (xor_all_split 4 4 (λ i. (v / 2 ^ i % 2) * f i)
      ∙ ap (bit_xor (xor_all 4 (λ i. (v / 2 ^ i % 2) * f i))) (no_terms (λ i. v / 2 ^ (4 + i) % 2) (λ i. f (4 + i)) (λ i. none_above v i h))
      ∙ xor_zero_r (xor_all 4 (λ i. (v / 2 ^ i % 2) * f i)))

  high_combined : (v : ℕ) → xor_all 4 (λ i. (v / 2 ^ i % 2) * f (4 + i)) ≡ combined f (v * 16)
  unfolding combined
  high_combined v =
      sym (xor_all_split 4 4 (λ i. (v * 16 / 2 ^ i % 2) * f i)
      ∙ ap₂ bit_xor (no_terms (λ i. v * 16 / 2 ^ i % 2) f (none_below v))
      (xor_all_same 4 _ _ (λ i h. ap (λ (b : ℕ). b * f (4 + i)) (high_bit v i h)))
      ∙ xor_zero_l (xor_all 4 (λ i. (v / 2 ^ i % 2) * f (4 + i))))

  -- The word of byte r of those with one nibble, as the code adds it up: v is its nibble, and its bits are numbered from `first` on.
  pub nibble_combined : (r first v w : ℕ) → r < 32 → first ≡ r / 16 * 4 → v ≡ r % 16 → w ≡ xor_all 4 (λ i. (v / 2 ^ i % 2) * f (first + i))
      → w ≡ combined f (nibble_byte r)
  nibble_combined r first v w h p q e = elim (dec_lt r 16) [
    | yes low ↦
        let own : v ≡ r = omega arith in
        e
        ∙ xor_all_same 4 _ _ (λ i l. let start : first + i ≡ i = omega arith in ap₂ (λ (n k : ℕ). (n / 2 ^ i % 2) * f k) own start)
        ∙ low_combined r low
        ∙ ap (combined f) (sym (nibble_byte_low r low))
    | no high ↦
        let start : first ≡ 4 = omega arith in
        let back : r ≡ 16 + v = omega arith in
        e ∙ rw start (high_combined v) ∙ ap (combined f) (sym (nibble_byte_high v) ∙ ap nibble_byte (sym back))
  ]

-- So the rows for the nibbles of y, where each row has the word of its byte, add up to the word of y.
pub word_in_lem : (f : ℕ → ℕ) (old words : List ℕ) (y : ℕ) → length old ≡ 64 → words ≡ stored 32 (λ r. combined f (nibble_byte r)) old → y < 256
    → word_in words y ≡ combined f y
word_in_lem f old words y long e h =
    ap₂ bit_xor (row (y % 16) (omega arith)) (row (16 + y / 16) (omega arith)) ∙ nibbles_add_up (combined f) (combined_linear f) y
  where
    row : (r : ℕ) → r < 32 → row_at words r ≡ combined f (nibble_byte r)
    row r l = ap (λ (m : List ℕ). row_at m r) e ∙ row_stored 32 (λ r. combined f (nibble_byte r)) old (omega (arith, long)) r l
