-- Laws, not definitions: the search row by row finds the element at a position. Before a matrix stand those with a lower row 0, as many as these rows lead to, then
-- those with the same row 0 and a lower row 1, and so on.
-- Assumes nothing.
use mathlib.Core.Bool.{Bool, true, false, cond, ◌||◌, or-false}
use mathlib.Core.Path.{◌≡◌, refl, sym, ap, ap₂, ◌∙◌, subst}
use Prim.Native.Nat.{ℕ, zero, suc, ◌+◌, ◌-◌, ◌*◌, ◌^◌, ◌<◌, ◌≤◌}
use native.Mathlib.Nat.{zero-add, pow-le-pow_right, pow-suc, mul_comm, mul_assoc, add-mul, add_assoc, add-zero}
use native.Mathlib.Omega.{arith}
use lib.Arith.{digits_lt}
use lib.Dec.{T, eqb}
use lib.ListN.{length}
use Rattle.bits.specs.Counts.{sum_below}
use Rattle.bits.specs.Lists.{at}
use Rattle.bits.proofs.laws.Checked.{member}
use Rattle.bits.proofs.laws.Counts.{counted, counted_same, counted_upto, sum_same, length_chosen, Stands, stands_at}
use Rattle.catalogue.specs.Catalogue.{is_invertible, side, catalogue_of, catalogue, catalogue_length}
use Rattle.catalogue.specs.Kernels.{vectors, kernel_with, ways, completions, NextRow}
use Rattle.catalogue.proofs.laws.Kernels.{whole, alone, passing, passing_row, passing_number}
use Rattle.catalogue.proofs.laws.Levels.{level, upper, leads, upper_next, leads_sum, completions_lead, leads_some, leads_all, level_upper}

-- ---- how many go on from a kernel
rows_before : (left k row v : ℕ) → v ≤ vectors ^ left
    → counted (passing (suc left) k) (row * vectors ^ left + v)
    ≡ sum_below row (λ r. counted (passing left (kernel_with k r)) (vectors ^ left)) + counted (passing left (kernel_with k row)) v
rows_before left k row v h =
    counted_upto (passing (suc left) k) (vectors ^ left) row v
    ∙ ap₂ (λ (a b : ℕ). a + b)
    (sum_same row _ _ (λ r l. counted_same _ _ (vectors ^ left) (λ x b. passing_row left k r x b)))
    (counted_same _ _ v (λ x b. passing_row left k row x (omega arith)))

leads_counted : (left k : ℕ) → left ≤ side → T (member k (upper left)) → counted (passing left k) (vectors ^ left) ≡ leads left k
unfolding counted passing leads member level ways
leads_counted zero k h m = zero-add (cond (eqb k alone) 1 0) ∙ ap (λ (b : Bool). cond {A = ℕ} b 1 0) (sym (or-false (eqb k alone)))
leads_counted (suc left) k h m =
    ap (counted (passing (suc left) k)) (pow-suc vectors left ∙ mul_comm (vectors ^ left) vectors ∙ sym (add-zero (vectors * vectors ^ left)))
    ∙ rows_before left k vectors 0 (omega arith)
    ∙ add-zero (sum_below vectors (λ r. counted (passing left (kernel_with k r)) (vectors ^ left)))
    ∙ sum_same vectors _ _ (λ r l. leads_counted left (kernel_with k r) (omega arith) (upper_next left k (omega arith) m r l))
    ∙ leads_sum left k (omega arith) m

start_level : T (member whole (level side))
unfolding member level
start_level = tt

-- ---- "There are 20,160."
pub long : length catalogue ≡ catalogue_length
unfolding catalogue_of ways
long =
    length_chosen (is_invertible side) (2 ^ (side * side))
    ∙ counted_same _ _ (2 ^ (side * side)) passing_number
    ∙ leads_counted side whole (omega arith) (level_upper side whole (omega arith) start_level)
    ∙ leads_all side whole start_level

-- ---- one row
-- What a search of the next row asks, and what it finds.
module _ (left k : ℕ) (h : left < side) (m : T (member k (level (suc left)))) where
  completions_total : (row : ℕ) → row ≤ vectors → sum_below row (completions k (ways left)) ≡ sum_below row (λ r. leads left (kernel_with k r))
  completions_total row l = sum_same row _ _ (λ r b. completions_lead left k h m r (omega arith))

  asked : (rest : ℕ) → rest < ways (suc left) → rest < sum_below vectors (completions k (ways left))
  asked rest l =
      omega (arith, completions_total vectors (omega arith), leads_sum left k h (level_upper (suc left) k (omega arith) m), leads_all (suc left) k m)

  module _ {position row next rest : ℕ} (N : NextRow k (ways left) position row next rest) where
    led : T (member (kernel_with k row) (level left))
    led = leads_some left (kernel_with k row) rest (omega (arith, N.inside, completions_lead left k h m row N.small))

    next_level : T (member next (level left))
    next_level = rw N.kernel led

    next_rest : rest < ways left
    next_rest = omega (arith, N.inside, completions_lead left k h m row N.small, leads_all left (kernel_with k row) led)

    next_stands : (v : ℕ) → Stands (passing left next) (vectors ^ left) rest v
        → Stands (passing (suc left) k) (vectors ^ suc left) position (row * vectors ^ left + v)
    next_stands v S =
        let before = level_upper (suc left) k (omega arith) m in
        record {
          below = subst (λ (x : ℕ). row * vectors ^ left + v < x) (mul_comm vectors (vectors ^ left) ∙ sym (pow-suc vectors left))
              (digits_lt N.small S.below);
          passes = passing_row left k row v S.below ∙ ap (λ (x : ℕ). passing left x v) (sym N.kernel) ∙ S.passes;
          rank =
              rows_before left k row v (omega (arith, S.below))
              ∙ ap₂ (λ (a b : ℕ). a + b)
              (sum_same row _ _ (λ r l. leads_counted left (kernel_with k r) (omega arith) (upper_next left k h before r (omega (arith, N.small))))
              ∙ sym (completions_total row (omega (arith, N.small))))
              (ap (λ (x : ℕ). counted (passing left x) v) (sym N.kernel) ∙ S.rank)
              ∙ sym N.passed;
        }

-- ---- the loop over the rows of a number. Its invariant: `left` rows are still to choose, the others make `number` and have the kernel k; and what stands at
-- `rest` member those that go on from k, put behind `number`, is the element at the position.
pub record Unranked (position number k rest left : ℕ) : Type 0 where
  pub within : left ≤ side
  pub kernel : T (member k (level left))
  pub inside : rest < ways left
  pub small : number < vectors ^ (side - left)
  pub stands : (v : ℕ) → Stands (passing left k) (vectors ^ left) rest v → number * vectors ^ left + v ≡ at catalogue position

pub unranked_none : {position : ℕ} → position < catalogue_length → Unranked position 0 whole position side
unfolding catalogue_of ways
unranked_none {position} h = record {
  within = omega arith;
  kernel = start_level;
  inside = h;
  small = omega arith;
  stands = λ v S.
      let here : Stands (is_invertible side) (2 ^ (side * side)) position v = record {
        below = S.below;
        passes = passing_number v S.below ∙ S.passes;
        rank = counted_same _ _ v (λ x l. passing_number x (omega (arith, S.below))) ∙ S.rank;
      } in
      let front : 0 * vectors ^ side + v ≡ v = omega arith in
      front ∙ sym (stands_at here);
}

-- A turn, behind which `left` rows are still to choose.
module _ {position number k rest left : ℕ} (I : Unranked position number k rest (suc left)) where
  one_asks : rest < sum_below vectors (completions k (ways left))
  one_asks = asked left k I.within I.kernel rest I.inside

  one_more : {row next more : ℕ} → NextRow k (ways left) rest row next more → Unranked position (number * vectors + row) next more left
  one_more {row} {next} {more} N = record {
    within = omega (arith, I.within);
    kernel = next_level left k I.within I.kernel N;
    inside = next_rest left k I.within I.kernel N;
    small =
        let e : suc (side - suc left) ≡ side - left = omega (arith, I.within) in
        subst (λ (x : ℕ). number * vectors + row < x) (sym (pow-suc vectors (side - suc left)) ∙ ap (λ (x : ℕ). vectors ^ x) e)
        (digits_lt I.small N.small);
    stands = λ v S.
        let w = vectors ^ left in
        let wide : vectors * w ≡ vectors ^ suc left = mul_comm vectors w ∙ sym (pow-suc vectors left) in
        ap (λ (x : ℕ). x + v) (add-mul (number * vectors) row w ∙ ap (λ (x : ℕ). x + row * w) (mul_assoc number vectors w))
        ∙ add_assoc (number * (vectors * w)) (row * w) v
        ∙ ap (λ (x : ℕ). number * x + (row * w + v)) wide
        ∙ I.stands (row * w + v) (next_stands left k I.within I.kernel N v S);
  }

-- The same as the code counts down.
module _ {position number k rest left : ℕ} (I : Unranked position number k rest left) (h : 0 < left) {each : ℕ} (e : each ≡ ways (left - 1)) where
  down : Unranked position number k rest (suc (left - 1))
  down = rw (let q : left ≡ suc (left - 1) = omega arith in q) at I

  pub unranked_asks : rest < sum_below vectors (completions k each)
  unranked_asks = rw e (one_asks down)

  pub unranked_more : {row next more : ℕ} → NextRow k each rest row next more → Unranked position (number * vectors + row) next more (left - 1)
  unranked_more N = one_more down (rw e at N)

-- A number in the making has 16 bits.
pub unranked_small : {position number k rest left : ℕ} → Unranked position number k rest left → number < 2 ^ (side * side)
unranked_small {left = left} I =
    omega (arith, I.small, pow-le-pow_right {n = vectors} (omega arith) {i = side - left} {j = side} (omega arith))

-- Where no row is left, the kernel is 0 alone, and the number the element.
pub unranked_all : {position number k rest left : ℕ} → Unranked position number k rest left → left ≡ 0 → number ≡ at catalogue position
unfolding passing counted member level ways
unranked_all {position} {number} {k} {rest} {left} I z =
    let e : number ≡ number * vectors ^ 0 + 0 = omega arith in
    let J : Unranked position number k rest 0 = rw z at I in
    e ∙ J.stands 0 (record { below = omega arith; passes = by (eqb k alone) J.kernel; rank = omega (arith, J.inside) })
  where
    by : (b : Bool) → T (b || false) → b ≡ true
    by true t = refl
    by false t = absurd t
