-- Laws, not definitions: parts that are cut out of a list, any of them, and those by number where all have one size.
-- Assumes nothing.
use mathlib.Core.List.{List, []}
use mathlib.Core.Path.{◌≡◌, sym, ap, ◌∙◌, subst}
use Prim.Native.Nat.{ℕ, ◌+◌, ◌-◌, ◌*◌, ◌/◌, ◌≤◌, ◌<◌}
use native.Mathlib.Decide.{dec_lt}
use native.Mathlib.Nat.{le_trans, mul-le-mul_right, div-mul-le_self, lt-div-mul-add}
use native.Mathlib.Omega.{arith}
use lib.ListN.{length, take, drop, length-take, length-drop, drop_of_length-le}
use lib.Seq.{take_all, take-nil, ext_get_or, get_or-take, get_or-drop}
use Rattle.bits.specs.Bytes.{Bytes}
use Rattle.bits.specs.Lists.{at, part_of}
use Rattle.bits.proofs.laws.Lists.{at_past, cut_is}
use Rattle.bits.proofs.laws.Multiples.{row_inside, parts_within}

-- ---- lists in general: a part of bytes is bytes, and a part of a part is a part
pub take_bytes : (n : ℕ) (l : List ℕ) → Bytes l → Bytes (take n l)
take_bytes n l h i = elim (dec_lt i n) [
  | yes q ↦ rw (get_or-take n l i 0 q) (h i)
  | no q ↦ rw (at_past (take n l) i (omega (arith, length-take n l))) (omega arith)
]

pub drop_bytes : (n : ℕ) (l : List ℕ) → Bytes l → Bytes (drop n l)
drop_bytes n l h i = rw (get_or-drop n l i 0) (h (n + i))

pub take_inside : (size a m : ℕ) (l : List ℕ) → a + size ≤ m → m ≤ length l → take size (drop a (take m l)) ≡ take size (drop a l)
take_inside size a m l h k =
    ext_get_or 0 (take size (drop a (take m l))) (take size (drop a l))
    (simp (length-take, length-drop) (omega arith))
    (λ i b.
    let q : i < size = omega (arith, length-take size (drop a (take m l))) in
    get_or-take size (drop a (take m l)) i 0 q ∙ get_or-drop a (take m l) i 0 ∙ get_or-take m l (a + i) 0 (omega arith)
    ∙ sym (get_or-take size (drop a l) i 0 q ∙ get_or-drop a l i 0))

-- ---- parts of one size
module _ (size : ℕ) (s : List ℕ) (n : ℕ) where
  pub part_none : length s ≤ n * size → part_of size s n ≡ []
  unfolding part_of
  part_none h = ap (take size) (drop_of_length-le s {i = n * size} h) ∙ take-nil size

  pub part_length : n * size + size ≤ length s → length (part_of size s n) ≡ size
  unfolding part_of
  part_length h = simp (length-take, length-drop) (omega arith)

  pub part_at : (i : ℕ) → i < size → at (part_of size s n) i ≡ at s (n * size + i)
  unfolding part_of
  part_at i h = get_or-take size (drop (n * size) s) i 0 h ∙ get_or-drop (n * size) s i 0

  pub part_bytes : Bytes s → Bytes (part_of size s n)
  unfolding part_of
  part_bytes h = take_bytes size (drop (n * size) s) (drop_bytes (n * size) s h)

  -- As the code cuts it: no part of no bytes, whole parts, the rest behind them, and nothing behind that.
  pub part_nothing : size ≡ 0 → [] ≡ part_of size s n
  unfolding part_of
  part_nothing e = sym (ap (λ (k : ℕ). take k (drop (n * size) s)) e)

  module _ (some : size ≡ 0 → ⊥) where
    pub part_past : length s / size < n → [] ≡ part_of size s n
    part_past h =
        let less : length s < length s / size * size + size = lt-div-mul-add (omega arith) in
        sym (part_none (omega (arith, row_inside (length s / size) size n h)))

    pub part_rest : length s / size ≡ n → take (length s - n * size) (drop (n * size) s) ≡ part_of size s n
    unfolding part_of
    part_rest e =
        let less : length s < n * size + size = subst (λ (k : ℕ). length s < k * size + size) e (lt-div-mul-add (omega arith)) in
        let rest = drop (n * size) s in
        take_all (length s - n * size) rest (omega (arith, length-drop (n * size) s))
        ∙ sym (take_all size rest (omega (arith, length-drop (n * size) s)))

  pub part_cut : take ((n * size + size) - n * size) (drop (n * size) s) ≡ part_of size s n
  unfolding part_of
  part_cut = cut_is s (n * size) size

-- Where part n starts, and a whole part ends, in a list of x elements.
module _ (size x n : ℕ) (h : n ≤ x / size) where
  pub part_starts : n * size ≤ x
  part_starts = le_trans (mul-le-mul_right size h) (div-mul-le_self x size)

  pub part_ends : (x / size ≡ n → ⊥) → n * size + size ≤ x
  part_ends k = parts_within size n (x / size) x (omega arith) (div-mul-le_self x size)
