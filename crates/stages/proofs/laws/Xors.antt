-- Laws, not definitions: the numbers of the three encodings of an XOR table, as the code works them out.
-- Assumes nothing.
use mathlib.Core.Bool.{cond}
use mathlib.Core.List.{List}
use mathlib.Core.Path.{◌≡◌, refl, sym, ap, ap₂, ◌∙◌}
use Prim.Native.Nat.{ℕ, zero, suc, ◌+◌, ◌-◌, ◌*◌, ◌/◌, ◌%◌, ◌≤◌, ◌<◌}
use native.Mathlib.Nat.{div-add-mod', suc-mul}
use native.Mathlib.Omega.{arith}
use borrow.Author.Tests.{ne_eqb}
use lib.Bits.{bit_xor}
use lib.Dec.{eqb}
use Rattle.bits.specs.Encodings.{encode, decode}
use Rattle.bits.specs.Nibbles.{packed}
use Rattle.bits.proofs.laws.Nibbles.{packed_ext}
use Rattle.bits.proofs.laws.Multiples.{product_le}
use Rattle.bundle.specs.Format.{encodings, section_of}
use Rattle.network.specs.Numbers.{encoding_number, layer_results}
use Rattle.network.specs.Order.{GoodWidth, xors, turn_of, group_of, nibble_of, added_of, sum_of}
use Rattle.network.specs.Tables.{xor_entry, xor_table}
use Rattle.network.proofs.laws.InRange.{number_lt}
use Rattle.network.proofs.laws.Order.{sum_div, added_lt, nibble_in, added_word_lt}
use Rattle.whitebox.specs.Bundles.{codings_of}
use Rattle.whitebox.proofs.laws.Bundles.{encoding_is}
use Rattle.encodings.specs.Encodings.{encoding_in}
use Rattle.stages.proofs.laws.Encodings.{encodings_in}

-- The table of encodings a, b and c of a section: of the sum so far, of the nibble that is added, of the result.
abbrev pub packed_by : List ℕ → ℕ → ℕ → ℕ → List ℕ
packed_by s a b c = packed 128 (λ e. encode (encoding_in s c) (bit_xor (decode (encoding_in s a) (e / 16)) (decode (encoding_in s b) (e % 16))))

module _ (m : ℕ) (good : GoodWidth m) (first x : ℕ) where
  result_is : first + 16 * (2 * m) + x ≡ encoding_number m first (sum_of m x) (suc (added_of m x)) (nibble_of m x)
  unfolding encoding_number
  result_is =
      let t : group_of m x * (m - 1) + added_of m x ≡ turn_of m x = div-add-mod' (turn_of m x) (m - 1) in
      let e : turn_of m x * (2 * m) + nibble_of m x ≡ x = div-add-mod' x (2 * m) in
      sym (ap (λ (z : ℕ). first + 16 * (2 * m) + (z * (m - 1) + added_of m x) * (2 * m) + nibble_of m x) (sum_div m good (group_of m x))
      ∙ ap (λ (z : ℕ). first + 16 * (2 * m) + z * (2 * m) + nibble_of m x) t
      ∙ omega arith)

  sum_at : (r a w h : ℕ) → r ≡ encoding_number m first w (suc a) h → cond (eqb a 0) (first + w * (2 * m) + h) (r - 2 * m) ≡ encoding_number m first w a h
  unfolding encoding_number
  sum_at r zero w h e = refl
  sum_at r (suc k) w h e =
      let n = w / m * (m - 1) in
      let q : (n + suc k) * (2 * m) ≡ (n + k) * (2 * m) + 2 * m =
      ap (λ (z : ℕ). z * (2 * m)) (omega arith) ∙ suc-mul (n + k) (2 * m) in
      rw (ne_eqb (suc k) 0 (λ z. omega arith)) (omega arith)

  so_far_is : cond (eqb (added_of m x) 0) (first + sum_of m x * (2 * m) + nibble_of m x) (first + 16 * (2 * m) + x - 2 * m)
      ≡ encoding_number m first (sum_of m x) (added_of m x) (nibble_of m x)
  so_far_is = sum_at (first + 16 * (2 * m) + x) (added_of m x) (sum_of m x) (nibble_of m x) result_is

  added_is : first + (sum_of m x + added_of m x + 1) * (2 * m) + nibble_of m x
      ≡ encoding_number m first (sum_of m x + suc (added_of m x)) 0 (nibble_of m x)
  unfolding encoding_number
  added_is =
      let e : sum_of m x + added_of m x + 1 ≡ sum_of m x + suc (added_of m x) = omega arith in
      ap (λ (z : ℕ). first + z * (2 * m) + nibble_of m x) e

  -- They are below the number of encodings, where the layer's results are.
  pub numbers_below : (count sum : ℕ) → first + layer_results m ≤ count → x < xors m
      → sum ≡ cond (eqb (added_of m x) 0) (first + sum_of m x * (2 * m) + nibble_of m x) (first + 16 * (2 * m) + x - 2 * m)
      → (sum < count) × (first + (sum_of m x + added_of m x + 1) * (2 * m) + nibble_of m x < count) × (first + 16 * (2 * m) + x < count)
  numbers_below count sum room made a =
      let w = sum_of m x in
      let k = added_of m x in
      let h = nibble_of m x in
      let within = added_word_lt m good x made in
      let few = added_lt m good x in
      let hh = nibble_in m good x in
      let wide = good.wide in
      let lt = number_lt m good first in (
        rw (a ∙ so_far_is) (omega (arith, lt w k h (omega arith) (omega arith) hh)),
        rw added_is (omega (arith, lt (w + suc k) 0 h within (omega arith) hh)),
        rw result_is (omega (arith, lt w (suc k) h (omega arith) (omega arith) hh)),
      )

  -- The table from these numbers and from the section of encodings.
  pub xor_made : (nr : ℕ) (l section dst : List ℕ) (sum : ℕ) → first + layer_results m ≤ encodings nr → x < xors m → section ≡ section_of nr l 0
      → sum ≡ cond (eqb (added_of m x) 0) (first + sum_of m x * (2 * m) + nibble_of m x) (first + 16 * (2 * m) + x - 2 * m)
      → dst ≡ packed_by section sum (first + (sum_of m x + added_of m x + 1) * (2 * m) + nibble_of m x) (first + 16 * (2 * m) + x)
      → dst ≡ xor_table (codings_of nr l).encoding m first x
  unfolding xor_table xor_entry
  xor_made nr l section dst sum room made is a d =
      let below = numbers_below (encodings nr) sum room made a in
      let own : (i n : ℕ) → i ≡ n → i < encodings nr → encoding_in section i ≡ (codings_of nr l).encoding n = λ i n e g.
      ap (λ (f : ℕ → List ℕ). f i) (encodings_in nr l section is) ∙ sym (encoding_is nr l i g) ∙ ap (codings_of nr l).encoding e in
      let A = own sum _ (a ∙ so_far_is) below.0 in
      let B = own _ _ added_is below.1 in
      let R = own _ _ result_is below.2 in
      d ∙ packed_ext 128 _ _ (λ e g. ap₂ encode R (ap₂ (λ (u v : List ℕ). bit_xor (decode u (e / 16)) (decode v (e % 16))) A B))

-- What the code's sums and products stay below, where there are `count` encodings.
pub record Within (count m first x : ℕ) : Type 0 where
  pub result : first + 16 * (2 * m) + x < count
  pub sum : sum_of m x * (2 * m) ≤ 480
  pub next : (sum_of m x + added_of m x + 1) * (2 * m) ≤ 480
  pub word : sum_of m x < 16
  pub added : added_of m x < 16
  pub nibble : nibble_of m x < 2 * m
  pub wide : 2 ≤ m
  pub most : m ≤ 16

pub xor_within : (count m first x : ℕ) → GoodWidth m → first + layer_results m ≤ count → x < xors m → Within count m first x
xor_within count m first x good room made =
    let within = added_word_lt m good x made in
    let few = added_lt m good x in
    let hh = nibble_in m good x in
    let wide = good.wide in
    let most = good.most in
    record {
      result = (numbers_below m good first x count _ room made refl).2;
      sum = product_le (sum_of m x) (2 * m) 15 32 (omega arith) (omega arith);
      next = product_le (sum_of m x + added_of m x + 1) (2 * m) 15 32 (omega arith) (omega arith);
      word = omega arith;
      added = omega arith;
      nibble = hh;
      wide = wide;
      most = most;
    }
