-- Laws, not definitions: XOR tables, made from what undoes the encodings of the two nibbles that are added and from the images of the sum.
-- Assumes nothing.
use mathlib.Core.List.{List}
use mathlib.Core.Path.{◌≡◌, sym, ap₂, ◌∙◌, subst}
use Prim.Native.Nat.{ℕ, ◌+◌, ◌*◌, ◌/◌, ◌%◌, ◌<◌}
use native.Mathlib.Omega.{arith}
use lib.Bits.{bit_xor, xor_lt}
use Rattle.bits.specs.Encodings.{images_of, encode, decode}
use Rattle.bits.specs.Lists.{at, tabulate, concat, part_of}
use Rattle.bits.specs.Nibbles.{pack, packed}
use Rattle.bits.proofs.laws.Lists.{tabulate_ext}
use Rattle.bits.proofs.laws.Nibbles.{packed_ext}
use Rattle.encodings.specs.Encodings.{encoding_in}
use Rattle.encodings.proofs.laws.Lists.{place_at, in_rows}
use Rattle.xor_tables.specs.Xors.{ForSums}

-- An XOR table is its 16 rows of 8 bytes.
pub rows_packed : (g : ℕ → ℕ → ℕ) → concat 16 (λ i. packed 8 (g i)) ≡ packed 128 (λ e. g (e / 16) (e % 16))
unfolding packed
rows_packed g =
    in_rows 16 8 (λ i k. pack (g i (2 * k)) (g i (2 * k + 1))) (omega arith)
    ∙ tabulate_ext 128 _ _ (λ k h.
    let high : k / 8 ≡ 2 * k / 16 = omega arith in
    let high-odd : k / 8 ≡ (2 * k + 1) / 16 = omega arith in
    let low : 2 * (k % 8) ≡ 2 * k % 16 = omega arith in
    let low-odd : 2 * (k % 8) + 1 ≡ (2 * k + 1) % 16 = omega arith in
    ap₂ pack (ap₂ g high low) (ap₂ g high-odd low-odd))

-- The image of the sum of a nibble and an element of `added` is a nibble.
pub sum_image : (added result : List ℕ) (a j r : ℕ) → a < 16 → ForSums added result → j < 16 → r ≡ at result (bit_xor a (at added j)) → r < 16
sum_image added result a j r small lists h e =
    subst (λ (x : ℕ). x < 16) (sym e) (lists.images.small (bit_xor a (at added j)) (xor_lt 4 a (at added j) small (lists.undone.small j h)))

-- An XOR table, from the lists of its three encodings.
pub xor_made : (s : List ℕ) (sum added result : ℕ) (a' b' c' a b c dst : List ℕ)
    → a' ≡ part_of 8 s sum
    → a ≡ tabulate 16 (decode (images_of a'))
    → b' ≡ part_of 8 s added
    → b ≡ tabulate 16 (decode (images_of b'))
    → c' ≡ part_of 8 s result
    → c ≡ images_of c'
    → dst ≡ packed 128 (λ e. at c (bit_xor (at a (e / 16)) (at b (e % 16))))
    → dst ≡ packed 128 (λ e. encode (encoding_in s result) (bit_xor (decode (encoding_in s sum) (e / 16)) (decode (encoding_in s added) (e % 16))))
xor_made s sum added result a' b' c' a b c dst pa ea pb eb pc ec written =
    let sums = place_at (encoding_in s sum) a (rw pa at ea) in
    let addeds = place_at (encoding_in s added) b (rw pb at eb) in
    written
    ∙ packed_ext 128 _ _ (λ e h. ap₂ at (rw pc at ec) (ap₂ bit_xor (sums (e / 16) (omega arith)) (addeds (e % 16) (omega arith))))
