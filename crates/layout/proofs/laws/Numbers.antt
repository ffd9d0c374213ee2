-- Laws, not definitions: rounds and numbers of encodings by stage of nr rounds, as the code meets them. What it knows of the stage s is an equation.
-- Assumes nothing.
use mathlib.Core.Path.{◌≡◌, sym, ap, ◌∙◌, subst}
use Prim.Native.Nat.{ℕ, suc, ◌+◌, ◌-◌, ◌*◌, ◌≤◌, ◌<◌}
use native.Mathlib.Omega.{arith}
use Rattle.network.specs.Numbers.{sum_number}
use Rattle.layout.specs.Stages.{lookups, encodings, stage_of, place_of, first_number, after_round, standing_number, InRounds}
use Rattle.layout.specs.declared.stage.Place.{Place}
use Rattle.layout.specs.declared.stage.Stage.{Stage}
use Rattle.layout.specs.declared.stage.Stage.TheVariants.{First, Second, Exit, Beyond}
use Rattle.layout.proofs.laws.Ranges.{by_range, by_stage}
use Rattle.layout.proofs.laws.Stages.{sums_16}

-- ---- rounds: what the functions ask of the stage is what they know of its round
pub record Round (nr r : ℕ) : Type 0 where
  pub low : 1 ≤ r
  pub high : r < nr

module _ (nr : ℕ) {s : Stage} where
  pub round_first : {r : ℕ} → s ≡ First r → InRounds nr s → Round nr r
  round_first e h = let is = subst (InRounds nr) e h in record { low = is.0; high = is.1 }

  pub round_second : {r : ℕ} → s ≡ Second r → InRounds nr s → Round nr r
  round_second e h = let is = subst (InRounds nr) e h in record { low = is.0; high = is.1 }

  pub never_beyond : s ≡ Beyond → InRounds nr s → ⊥
  never_beyond e h = subst (InRounds nr) e h

-- The stage or half of lookup n is one of the rounds, also as its place has it.
in_rounds : (nr n : ℕ) → 1 ≤ nr → n < lookups nr → InRounds nr (stage_of nr n)
in_rounds nr n some h = by_range nr n h (InRounds nr) (λ a. some) (λ r lo hi a b. (lo, hi)) (λ r lo hi a b. (lo, hi)) (λ a b. some)

pub round_at : (nr n : ℕ) (q : Place) → q ≡ place_of nr n → 1 ≤ nr → n < lookups nr → InRounds nr q.stage
round_at nr n q e some h = rw e (in_rounds nr n some h)

-- ---- the number of standing nibble q: of a sum of the layer before, which n is where that layer is a half
module _ (nr : ℕ) {s : Stage} (q : ℕ) where
  of_stage : {t : Stage} → s ≡ t → standing_number nr t q ≡ standing_number nr s q
  of_stage e = ap (λ (t : Stage). standing_number nr t q) (sym e)

  pub standing_one : {r : ℕ} → s ≡ First r → r ≡ 1 → q < 32 → 992 + q ≡ standing_number nr s q
  standing_one {r} e h k =
      let none : 0 ≡ r - 1 = omega arith in
      sym (sums_16 32 q k) ∙ ap (λ (k : ℕ). after_round k q) none ∙ of_stage e

  pub standing_first : {r n : ℕ} → s ≡ First r → (r ≡ 1 → ⊥) → Round nr r → n ≡ after_round (suc (r - 2)) q → n ≡ standing_number nr s q
  standing_first {r} e h round is =
      let before : suc (r - 2) ≡ r - 1 = omega arith in
      is ∙ ap (λ (k : ℕ). after_round k q) before ∙ of_stage e

  pub standing_second : {r n : ℕ} → s ≡ Second r → n ≡ sum_number 4 (first_number nr (First r)) q → n ≡ standing_number nr s q
  standing_second e is = is ∙ of_stage e

  pub standing_exit : {n : ℕ} → s ≡ Exit → 2 ≤ nr → n ≡ after_round (suc (nr - 2)) q → n ≡ standing_number nr s q
  standing_exit e h is =
      let before : suc (nr - 2) ≡ nr - 1 = omega arith in
      is ∙ ap (λ (k : ℕ). after_round k q) before ∙ of_stage e

-- A number below that of all encodings, by document 01's numbers.
pub number_below : (nr : ℕ) {n : ℕ} → n < 2016 + 448 * (nr - 1) → n < encodings nr
number_below nr h = omega (arith, (by_stage nr).all_encodings)
