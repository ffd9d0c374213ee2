-- Laws, not definitions: a list of bytes with one bit turned over, by its bits, bytes and nibbles, and by parts of it. Bit i is bit i % 8 of byte i / 8 and
-- bit i % 4 of nibble i / 4, and the xor with it changes nothing else.
-- Assumes nothing.
use mathlib.Core.Bool.{cond}
use mathlib.Core.List.{List, [], ◌∷◌, ◌++◌}
use mathlib.Core.Logic.{◌⊎◌, inl, inr}
use mathlib.Core.Path.{◌≡◌, refl, sym, ap, ap₂, ◌∙◌}
use Prim.Native.Nat.{ℕ, zero, suc, ◌+◌, ◌-◌, ◌*◌, ◌/◌, ◌%◌, ◌^◌, ◌≤◌, ◌<◌}
use native.Mathlib.Decide.{ℕ_discrete, dec_lt}
use native.Mathlib.Omega.{arith}
use lib.Bits.{bit_xor, xor_lt, xor_shr, xor_mod, xor_zero_r}
use lib.Dec.{eqb, ltb, eqb→eq, ltb→lt}
use lib.ListN.{length, set, take, drop, length-set, get_or-append}
use lib.Seq.{get_or-set_same, get_or-set_other, get_or-take, get_or-drop, set_out, set-set, set-append_left, get_or-append-add}
use lib.Seq.{take-set-le, take-set-lt, drop-set-lt, drop-set-add}
use Rattle.bits.specs.Bytes.{Bytes}
use Rattle.bits.specs.Flips.{bit_at, flipped, FlipsOneBit, TopBitFirst}
use Rattle.bits.specs.Lists.{at}
use Rattle.bits.specs.Nibbles.{pack, half, nibble, set_nibble, packed}
use Rattle.bits.specs.Vectors.{bit, unit}
use Rattle.bits.proofs.laws.Checked.{all_at}
use Rattle.bits.proofs.laws.Nibbles.{parity, length_packed, nibble_packed, packed_ext, packed_nibbles}
use Rattle.bits.proofs.laws.Vectors.{bit_shift, bit_lt, bit_xor_lem, bit_unit_same, bit_unit_other, unit_lt}
use Rattle.bits.proofs.laws.Xor.{two, xor_none}

-- ---- by bytes
pub length_flipped : (l : List ℕ) (i : ℕ) → length (flipped l i) ≡ length l
unfolding flipped
length_flipped l i = length-set l (i / 8) _

at_flipped_same : (l : List ℕ) (i : ℕ) → i / 8 < length l → at (flipped l i) (i / 8) ≡ bit_xor (at l (i / 8)) (unit 8 (i % 8))
unfolding flipped
at_flipped_same l i h = get_or-set_same l (i / 8) _ 0 h

at_flipped_other : (l : List ℕ) (i b : ℕ) → (b ≡ i / 8 → ⊥) → at (flipped l i) b ≡ at l b
unfolding flipped
at_flipped_other l i b ne = get_or-set_other l (i / 8) b _ 0 ne

flipped_beyond : (l : List ℕ) (i : ℕ) → length l ≤ i / 8 → flipped l i ≡ l
unfolding flipped
flipped_beyond l i h = set_out l (i / 8) _ h

pub flipped_bytes : (l : List ℕ) → Bytes l → (i : ℕ) → Bytes (flipped l i)
flipped_bytes l b i j = go (ℕ_discrete j (i / 8)) (dec_lt (i / 8) (length l))
  where
    go : Dec (j ≡ i / 8) → Dec (i / 8 < length l) → at (flipped l i) j < 256
    go (no ne) d = rw (at_flipped_other l i j ne) (b j)
    go (yes e) (yes h) = rw (e, at_flipped_same l i h) (xor_lt 8 (at l (i / 8)) (unit 8 (i % 8)) (b (i / 8)) (unit_lt 8 (i % 8) (omega arith)))
    go (yes e) (no h) = rw (flipped_beyond l i (omega arith)) (b j)

-- ---- by bits
other_bit : (b : ℕ) → b < 2 → (b + 1) % 2 ≡ 1 - b
other_bit b h = two (λ (x : ℕ). (x + 1) % 2 ≡ 1 - x) refl refl b h

same_bit : (b : ℕ) → b < 2 → (b + 0) % 2 ≡ b
same_bit b h = two (λ (x : ℕ). (x + 0) % 2 ≡ x) refl refl b h

pub flips_one_bit : FlipsOneBit
flips_one_bit l i =
    record {
      from_top = bit_shift 8 (i % 8) x ∙ ap (λ (n : ℕ). x / 2 ^ n % 2) (let e : 8 - suc (i % 8) ≡ 7 - i % 8 = omega arith in e);
      long = length_flipped l i;
      bytes = λ b. flipped_bytes l b i;
      there = λ h. there (omega arith);
      others = λ j ne. others j ne (ℕ_discrete (j / 8) (i / 8)) (dec_lt (i / 8) (length l));
      beyond = λ h. flipped_beyond l i (omega arith);
    }
  where
    x : ℕ
    x = at l (i / 8)

    there : i / 8 < length l → bit_at (flipped l i) i ≡ 1 - bit_at l i
    there h =
        ap (bit 8 (i % 8)) (at_flipped_same l i h)
        ∙ bit_xor_lem 8 (i % 8) x (unit 8 (i % 8))
        ∙ ap (λ (b : ℕ). (bit 8 (i % 8) x + b) % 2) (bit_unit_same 8 (i % 8))
        ∙ other_bit (bit 8 (i % 8) x) (bit_lt 8 (i % 8) x)

    others : (j : ℕ) → (j ≡ i → ⊥) → Dec (j / 8 ≡ i / 8) → Dec (i / 8 < length l) → bit_at (flipped l i) j ≡ bit_at l j
    others j ne (no z) d = ap (bit 8 (j % 8)) (at_flipped_other l i (j / 8) z)
    others j ne (yes z) (no h) = ap (λ (s : List ℕ). bit_at s j) (flipped_beyond l i (omega arith))
    others j ne (yes z) (yes h) =
        let apart : i % 8 ≡ j % 8 → ⊥ = λ e. ne (omega arith) in
        ap (λ (b : ℕ). bit 8 (j % 8) (at (flipped l i) b)) z
        ∙ ap (bit 8 (j % 8)) (at_flipped_same l i h)
        ∙ bit_xor_lem 8 (j % 8) x (unit 8 (i % 8))
        ∙ ap (λ (b : ℕ). (bit 8 (j % 8) x + b) % 2) (bit_unit_other 8 (i % 8) (j % 8) (omega arith) (omega arith) apart)
        ∙ same_bit (bit 8 (j % 8) x) (bit_lt 8 (j % 8) x)
        ∙ ap (λ (b : ℕ). bit 8 (j % 8) (at l b)) (sym z)

pub top_bit_first : TopBitFirst
unfolding flipped
top_bit_first = refl

-- So its byte is another one.
pub byte_differs : (l : List ℕ) (i : ℕ) → i / 8 < length l → at (flipped l i) (i / 8) ≡ at l (i / 8) → ⊥
byte_differs l i h e =
    let b = bit_lt 8 (i % 8) (at l (i / 8)) in
    let z : 1 - bit_at l i ≡ bit_at l i = sym ((flips_one_bit l i).there (omega arith)) ∙ ap (bit 8 (i % 8)) e in
    omega arith

-- ---- by nibbles
-- A bit of a byte is one of its high or of its low half: computed at its eight places.
high_bit : (r : ℕ) → r < 4 → (unit 8 r / 16 ≡ unit 4 r) × (unit 8 r % 16 ≡ 0)
high_bit r h = (
  eqb→eq _ _ (all_at 4 (λ n. eqb (unit 8 n / 16) (unit 4 n)) tt r h),
  eqb→eq _ _ (all_at 4 (λ n. eqb (unit 8 n % 16) 0) tt r h),
)

low_bit : (r : ℕ) → r < 4 → (unit 8 (4 + r) / 16 ≡ 0) × (unit 8 (4 + r) % 16 ≡ unit 4 r)
low_bit r h = (
  eqb→eq _ _ (all_at 4 (λ n. eqb (unit 8 (4 + n) / 16) 0) tt r h),
  eqb→eq _ _ (all_at 4 (λ n. eqb (unit 8 (4 + n) % 16) (unit 4 n)) tt r h),
)

pub nibble_bit : (r : ℕ) → r < 4 → (unit 4 r < 16) × (0 < unit 4 r)
nibble_bit r h = (unit_lt 4 r h, ltb→lt 0 _ (all_at 4 (λ n. ltb 0 (unit 4 n)) tt r h))

-- What it changes of the half that it is in, and of the other.
half_bit : (s r x : ℕ) → s < 2 → r < 4 → (half s (bit_xor x (unit 8 (4 * s + r))) ≡ bit_xor (half s x) (unit 4 r))
    × (half (1 - s) (bit_xor x (unit 8 (4 * s + r))) ≡ half (1 - s) x)
half_bit zero r x c h =
    let e : 4 * 0 + r ≡ r = omega arith in (
      ap (λ (n : ℕ). bit_xor x (unit 8 n) / 16) e ∙ xor_shr x (unit 8 r) 4 ∙ ap (bit_xor (x / 16)) (high_bit r h).0,
      ap (λ (n : ℕ). bit_xor x (unit 8 n) % 16) e ∙ xor_mod x (unit 8 r) 4 ∙ ap (bit_xor (x % 16)) (high_bit r h).1 ∙ xor_zero_r (x % 16),
    )
half_bit (suc zero) r x c h = (
  xor_mod x (unit 8 (4 + r)) 4 ∙ ap (bit_xor (x % 16)) (low_bit r h).1,
  xor_shr x (unit 8 (4 + r)) 4 ∙ ap (bit_xor (x / 16)) (low_bit r h).0 ∙ xor_zero_r (x / 16),
)
half_bit (suc (suc s)) r x c h = absurd (omega arith)

-- The byte of bit i, by the half that it is in.
at_flipped : (l : List ℕ) (i : ℕ) → i / 8 < length l → at (flipped l i) (i / 8) ≡ bit_xor (at l (i / 8)) (unit 8 (4 * (i / 4 % 2) + i % 4))
at_flipped l i h = at_flipped_same l i h ∙ ap (λ (r : ℕ). bit_xor (at l (i / 8)) (unit 8 r)) (omega arith)

pub nibble_flipped_same : (l : List ℕ) (i : ℕ) → i / 8 < length l → nibble (flipped l i) (i / 4) ≡ bit_xor (nibble l (i / 4)) (unit 4 (i % 4))
unfolding nibble
nibble_flipped_same l i h =
    let e : i / 4 / 2 ≡ i / 8 = omega arith in
    rw (e, at_flipped l i h) (half_bit (i / 4 % 2) (i % 4) (at l (i / 8)) (omega arith) (omega arith)).0

pub nibble_flipped_other : (l : List ℕ) (i q : ℕ) → (q ≡ i / 4 → ⊥) → nibble (flipped l i) q ≡ nibble l q
unfolding nibble
nibble_flipped_other l i q ne = go (ℕ_discrete (q / 2) (i / 8)) (dec_lt (i / 8) (length l))
  where
    go : Dec (q / 2 ≡ i / 8) → Dec (i / 8 < length l) → nibble (flipped l i) q ≡ nibble l q
    go (no z) d = ap (half (q % 2)) (at_flipped_other l i (q / 2) z)
    go (yes z) (no h) = ap (λ (s : List ℕ). half (q % 2) (at s (q / 2))) (flipped_beyond l i (omega arith))
    go (yes z) (yes h) =
        let e : q % 2 ≡ 1 - i / 4 % 2 = omega arith in
        rw (z, e, at_flipped l i h) (half_bit (i / 4 % 2) (i % 4) (at l (i / 8)) (omega arith) (omega arith)).1

pub nibble_differs : (l : List ℕ) (i : ℕ) → i / 8 < length l → nibble (flipped l i) (i / 4) ≡ nibble l (i / 4) → ⊥
nibble_differs l i h e =
    let z : unit 4 (i % 4) ≡ 0 = xor_none (nibble l (i / 4)) (unit 4 (i % 4)) (sym (nibble_flipped_same l i h) ∙ e) in
    omega (arith, (nibble_bit (i % 4) (omega arith)).1)

-- Bytes that are packed from nibbles f, and those from nibbles g that differ in this bit alone.
pub flipped_packed : (n : ℕ) (f g : ℕ → ℕ) → ((q : ℕ) → f q < 16) → (i : ℕ) → i < 8 * n → g (i / 4) ≡ bit_xor (f (i / 4)) (unit 4 (i % 4))
    → ((q : ℕ) → q < 2 * n → (q ≡ i / 4 → ⊥) → g q ≡ f q) → flipped (packed n f) i ≡ packed n g
flipped_packed n f g b i h e o =
    sym (packed_nibbles n (flipped (packed n f) i) (length_flipped (packed n f) i ∙ length_packed n f))
    ∙ packed_ext n (nibble (flipped (packed n f) i)) g (λ q l. go q l (ℕ_discrete q (i / 4)))
  where
    go : (q : ℕ) → q < 2 * n → Dec (q ≡ i / 4) → nibble (flipped (packed n f) i) q ≡ g q
    go q l (yes z) =
        ap (nibble (flipped (packed n f) i)) z
        ∙ nibble_flipped_same (packed n f) i (omega (arith, length_packed n f))
        ∙ ap (λ (x : ℕ). bit_xor x (unit 4 (i % 4))) (nibble_packed n f b (i / 4) (omega arith))
        ∙ sym e ∙ ap g (sym z)
    go q l (no z) = nibble_flipped_other (packed n f) i q z ∙ nibble_packed n f b q l ∙ sym (o q l z)

-- A nibble that is replaced by another, which differs in one bit.
pub flip_nibble : (l : List ℕ) (q v r : ℕ) → q / 2 < length l → v < 16 → r < 4
    → set_nibble l q (bit_xor v (unit 4 r)) ≡ flipped (set_nibble l q v) (4 * q + r)
unfolding set_nibble flipped
flip_nibble l q v r h b c =
    sym
    (ap₂ (λ (x y : ℕ). set (set l (q / 2) old) x (bit_xor (at (set l (q / 2) old) x) (unit 8 y))) in_byte in_half
    ∙ ap (λ (x : ℕ). set (set l (q / 2) old) (q / 2) (bit_xor x (unit 8 (4 * (q % 2) + r)))) (get_or-set_same l (q / 2) old 0 h)
    ∙ set-set l (q / 2) old _
    ∙ ap (set l (q / 2)) (by_half (parity q)))
  where
    y : ℕ
    y = at l (q / 2)

    old : ℕ
    old = cond (eqb (q % 2) 0) (pack v (y % 16)) (pack (y / 16) v)

    in_byte : (4 * q + r) / 8 ≡ q / 2
    in_byte = omega arith

    in_half : (4 * q + r) % 8 ≡ 4 * (q % 2) + r
    in_half = omega arith

    halves : (x : ℕ) → x ≡ pack (x / 16) (x % 16)
    halves x = omega arith

    by_half : ((q % 2 ≡ 0) × (q ≡ 2 * (q / 2))) ⊎ ((q % 2 ≡ 1) × (q ≡ 2 * (q / 2) + 1))
        → bit_xor old (unit 8 (4 * (q % 2) + r)) ≡ cond (eqb (q % 2) 0) (pack (bit_xor v (unit 4 r)) (y % 16)) (pack (y / 16) (bit_xor v (unit 4 r)))
    by_half (inl p) =
        let x : ℕ = pack v (y % 16) in
        let B = half_bit 0 r x (omega arith) c in
        let high : x / 16 ≡ v = omega arith in
        let low : x % 16 ≡ y % 16 = omega arith in
        rw p.0 (halves (bit_xor x (unit 8 (4 * 0 + r))) ∙ ap₂ pack (B.0 ∙ ap (λ (z : ℕ). bit_xor z (unit 4 r)) high) (B.1 ∙ low))
    by_half (inr p) =
        let x : ℕ = pack (y / 16) v in
        let B = half_bit 1 r x (omega arith) c in
        let high : x / 16 ≡ y / 16 = omega arith in
        let low : x % 16 ≡ v = omega arith in
        rw p.0 (halves (bit_xor x (unit 8 (4 * 1 + r))) ∙ ap₂ pack (B.1 ∙ high) (B.0 ∙ ap (λ (z : ℕ). bit_xor z (unit 4 r)) low))

-- ---- by parts: the part of `size` bytes at byte `offset` of a list
module _ (l : List ℕ) (offset size i : ℕ) where
  pub part_before : i < 8 * offset → take size (drop offset (flipped l i)) ≡ take size (drop offset l)
  unfolding flipped
  part_before h = ap (take size) (drop-set-lt offset l (i / 8) _ (omega arith))

  pub part_behind : 8 * (offset + size) ≤ i → take size (drop offset (flipped l i)) ≡ take size (drop offset l)
  unfolding flipped
  part_behind h =
      let e : i / 8 ≡ offset + (i / 8 - offset) = omega arith in
      ap (λ (x : ℕ). take size (drop offset (set l x (bit_xor (at l (i / 8)) (unit 8 (i % 8)))))) e
      ∙ ap (take size) (drop-set-add offset l (i / 8 - offset) _)
      ∙ take-set-le size (drop offset l) (i / 8 - offset) _ (omega arith)

-- Bit e of that part.
pub part_within : (l : List ℕ) (offset size e : ℕ) → e < 8 * size → take size (drop offset (flipped l (8 * offset + e))) ≡ flipped (take size (drop offset l)) e
unfolding flipped
part_within l offset size e h =
    let d : ℕ = e / 8 in
    let byte : (8 * offset + e) / 8 ≡ offset + d = omega arith in
    let bit : (8 * offset + e) % 8 ≡ e % 8 = omega arith in
    ap₂ (λ (x y : ℕ). take size (drop offset (set l x (bit_xor (at l x) (unit 8 y))))) byte bit
    ∙ ap (take size) (drop-set-add offset l d _)
    ∙ take-set-lt size (drop offset l) d _ (omega arith)
    ∙ ap (λ (v : ℕ). set (take size (drop offset l)) d (bit_xor v (unit 8 (e % 8))))
    (sym (get_or-take size (drop offset l) d 0 (omega arith) ∙ get_or-drop offset l d 0))

-- ---- by lists one after the other
set_behind : (u v : List ℕ) (i x : ℕ) → set (u ++ v) (length u + i) x ≡ u ++ set v i x
set_behind [] v i x = ap (λ (n : ℕ). set v n x) (let e : 0 + i ≡ i = omega arith in e)
set_behind (a ∷ u) v i x =
    ap (λ (n : ℕ). set (a ∷ (u ++ v)) n x) (let e : suc (length u) + i ≡ suc (length u + i) = omega arith in e)
    ∙ ap (λ (l : List ℕ). a ∷ l) (set_behind u v i x)

pub flipped_behind : (u v : List ℕ) (e : ℕ) → flipped (u ++ v) (8 * length u + e) ≡ u ++ flipped v e
unfolding flipped
flipped_behind u v e =
    let byte : (8 * length u + e) / 8 ≡ length u + e / 8 = omega arith in
    let bit : (8 * length u + e) % 8 ≡ e % 8 = omega arith in
    ap₂ (λ (x y : ℕ). set (u ++ v) x (bit_xor (at (u ++ v) x) (unit 8 y))) byte bit
    ∙ ap (λ (x : ℕ). set (u ++ v) (length u + e / 8) (bit_xor x (unit 8 (e % 8)))) (get_or-append-add u v (e / 8) 0)
    ∙ set_behind u v (e / 8) _

pub flipped_front : (u v : List ℕ) (e : ℕ) → e < 8 * length u → flipped (u ++ v) e ≡ flipped u e ++ v
unfolding flipped
flipped_front u v e h =
    ap (λ (x : ℕ). set (u ++ v) (e / 8) (bit_xor x (unit 8 (e % 8)))) (get_or-append u v 0 (e / 8) (omega arith))
    ∙ set-append_left u v (e / 8) _ (omega arith)
