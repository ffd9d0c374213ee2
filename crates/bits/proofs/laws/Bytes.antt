-- Laws, not definitions: numbers as bytes and back.
-- Assumes nothing.
use mathlib.Core.List.{List}
use mathlib.Core.Path.{◌≡◌, sym, ap, ◌∙◌}
use Prim.Native.Nat.{ℕ, suc, ◌+◌, ◌-◌, ◌*◌, ◌/◌, ◌%◌, ◌^◌, ◌≤◌, ◌<◌}
use native.Mathlib.Nat.{zero-add}
use native.Mathlib.Omega.{arith}
use lib.Dec.{lit<}
use lib.ListN.{length}
use lib.Pow.{pow-add}
use Rattle.bits.specs.Bytes.{Bytes, Block, byte, number, number_of, number_at, bytes_of, placed}
use Rattle.bits.specs.Groups.{group, xor_all}
use Rattle.bits.specs.Lists.{at}
use Rattle.bits.specs.Words.{wide}
use Rattle.bits.proofs.laws.Filled.{Filled, filled_at}
use Rattle.bits.proofs.laws.Groups.{group_lt, joined_lt, joined_same, joined_group, group_joined, joined_one, xor_placed}
use Rattle.bits.proofs.laws.Lists.{length_tabulate, at_tabulate, tabulate_below, ext_at}

-- ---- numbers
pub byte_lt : (n i v : ℕ) → byte n i v < 256
byte_lt n i v = group_lt 8 n i v

-- Byte i of n, counted from the bottom.
pub byte_from_bottom : (n i v r : ℕ) → r ≡ v / 2 ^ (8 * (n - 1 - i)) % 256 → r ≡ byte n i v
unfolding group
byte_from_bottom n i v r e =
    let place : n - 1 - i ≡ n - suc i = omega arith in
    e ∙ ap (λ (x : ℕ). v / 2 ^ (8 * x) % 256) place

pub number_of_lt : (n : ℕ) (l : List ℕ) → Bytes l → number_of n l < 2 ^ (8 * n)
number_of_lt n l b = joined_lt 8 n (at l) (λ i h. b i)

-- The number of four bytes lies in the low of two words.
pub low_word : (l : List ℕ) (a hi lo : ℕ) → Bytes l → wide hi lo ≡ number 4 (λ j. at l (a + j)) → (lo ≡ number_at l a) × (lo < 4294967296)
unfolding wide number_at
low_word l a hi lo b e =
    let n : number 4 (λ j. at l (a + j)) < 4294967296 = joined_lt 8 4 (λ j. at l (a + j)) (λ i h. b (a + i)) in
    (omega arith, omega arith)

pub length_bytes_of : (n v : ℕ) → length (bytes_of n v) ≡ n
unfolding bytes_of
length_bytes_of n v = length_tabulate n _

pub at_bytes_of : (n v i : ℕ) → i < n → at (bytes_of n v) i ≡ byte n i v
unfolding bytes_of
at_bytes_of n v i h = at_tabulate n _ i h

pub bytes_of_bytes : (n v : ℕ) → Bytes (bytes_of n v)
unfolding bytes_of
bytes_of_bytes n v = tabulate_below 256 n _ (lit< tt) (λ i h. byte_lt n i v)

pub bytes_of_block : (v : ℕ) → Block (bytes_of 16 v)
bytes_of_block v = record { long = length_bytes_of 16 v; bytes = bytes_of_bytes 16 v }

-- A number is that of its bytes, and bytes are those of their number.
pub number_of_bytes_of : (n v : ℕ) → v < 2 ^ (8 * n) → number_of n (bytes_of n v) ≡ v
number_of_bytes_of n v h = joined_same 8 n _ _ (λ i l. at_bytes_of n v i l) ∙ joined_group 8 n v h

pub bytes_of_number_of : (n : ℕ) (l : List ℕ) → length l ≡ n → Bytes l → bytes_of n (number_of n l) ≡ l
bytes_of_number_of n l e b =
    ext_at n (bytes_of n (number_of n l)) l (length_bytes_of n (number_of n l)) e (λ i h.
    at_bytes_of n (number_of n l) i h ∙ group_joined 8 n (at l) (λ j q. b j) i h)

-- ---- a vector is the xor of its bytes, each placed alone
pub xor_of_placed : (n v : ℕ) → v < 2 ^ (8 * n) → xor_all n (λ i. placed n i (byte n i v)) ≡ v
unfolding placed
xor_of_placed n v h = xor_placed 8 n (λ i. byte n i v) (λ i l. byte_lt n i v) ∙ joined_group 8 n v h

-- The byte 2^k alone is one digit of the number.
pub placed_power : (n i k : ℕ) → i < n → 2 ^ (8 * (n - 1 - i) + k) ≡ placed n i (2 ^ k)
unfolding placed
placed_power n i k h =
    let digit : 8 * (n - 1 - i) + k ≡ k + 8 * (n - suc i) = omega arith in
    ap (λ (x : ℕ). 2 ^ x) digit ∙ pow-add 2 k (8 * (n - suc i)) ∙ sym (joined_one 8 n i (2 ^ k) h)

-- ---- the number r of the first n places of a list that a loop fills, as `read` gives it
pub filled_number : {m : ℕ} {f : ℕ → ℕ} {t : List ℕ} {i : ℕ} (n r : ℕ) → Filled m f t i → n ≤ i → r ≡ number n (λ j. at t (0 + j)) → r ≡ number n f
filled_number {t = t} n r F h e = e ∙ joined_same 8 n _ _ (λ j k. ap (at t) (zero-add j) ∙ filled_at F j (omega arith))
