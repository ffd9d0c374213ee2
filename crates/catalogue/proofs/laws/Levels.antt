-- Laws, not definitions: the kernels that rows can leave, and how many matrices go on from each. Where `left` rows are still to choose, each kernel of 2 ^ left
-- vectors leads to the same number of matrices, and one of more vectors to none: 67 kernels in all, the subspaces of the vectors of 4 bits, each tested with the 16
-- rows.
-- Assumes nothing.
use mathlib.Core.Bool.{Bool, true, false, cond}
use mathlib.Core.List.{List, [], ◌∷◌, ◌++◌}
use mathlib.Core.Path.{◌≡◌, refl}
use Prim.Native.Nat.{ℕ, zero, suc, ◌-◌, ◌<◌, ◌≤◌}
use native.Mathlib.Omega.{arith}
use lib.Count.{ones}
use lib.Dec.{T, eqb, eqb→eq}
use Rattle.bits.specs.Counts.{sum_below}
use Rattle.bits.specs.Groups.{joined}
use Rattle.bits.specs.Vectors.{dot}
use Rattle.bits.proofs.laws.Checked.{both, both_left, both_right, every, member, every_member, member_front, all, all_at}
use Rattle.catalogue.specs.Catalogue.{side}
use Rattle.catalogue.specs.Kernels.{vectors, kernel_of, kernel_with, ways, completions}

-- ---- the kernels of 2 ^ left vectors: 1, 15, 35, 15 and 1; and those of 2 ^ left or more
unfoldable pub level : ℕ → List ℕ
level zero = 0x8000 ∷ []
level (suc zero) =
    0x8001 ∷ 0x8002 ∷ 0x8004 ∷ 0x8008 ∷ 0x8010 ∷ 0x8020 ∷ 0x8040 ∷ 0x8080 ∷ 0x8100 ∷ 0x8200 ∷ 0x8400 ∷ 0x8800 ∷ 0x9000 ∷ 0xa000 ∷ 0xc000 ∷ []
level (suc (suc zero)) =
    0x8118 ∷ 0x8124 ∷ 0x8142 ∷ 0x8181 ∷ 0x8214 ∷ 0x8228 ∷ 0x8241 ∷ 0x8282 ∷ 0x8412 ∷ 0x8421 ∷ 0x8448 ∷ 0x8484 ∷ 0x8811 ∷ 0x8822 ∷ 0x8844 ∷
    0x8888 ∷ 0x9006 ∷ 0x9009 ∷ 0x9060 ∷ 0x9090 ∷ 0x9600 ∷ 0x9900 ∷ 0xa005 ∷ 0xa00a ∷ 0xa050 ∷ 0xa0a0 ∷ 0xa500 ∷ 0xaa00 ∷ 0xc003 ∷ 0xc00c ∷
    0xc030 ∷ 0xc0c0 ∷ 0xc300 ∷ 0xcc00 ∷ 0xf000 ∷ []
level (suc (suc (suc zero))) =
    0x9669 ∷ 0x9696 ∷ 0x9966 ∷ 0x9999 ∷ 0xa55a ∷ 0xa5a5 ∷ 0xaa55 ∷ 0xaaaa ∷ 0xc33c ∷ 0xc3c3 ∷ 0xcc33 ∷ 0xcccc ∷ 0xf00f ∷ 0xf0f0 ∷ 0xff00 ∷ []
level (suc (suc (suc (suc zero)))) = 0xffff ∷ []
level (suc (suc (suc (suc (suc left))))) = []

unfoldable from : ℕ → ℕ → List ℕ
from zero left = []
from (suc d) left = level left ++ from d (suc left)

unfoldable pub upper : ℕ → List ℕ
unfolding from
upper left = from (suc side - left) left

-- How many matrices go on from a kernel, where `left` rows are still to choose.
unfoldable pub leads : ℕ → ℕ → ℕ
leads left k = cond (member k (level left)) (ways left) 0

-- ---- the tests: of a kernel of 2 ^ (left + 1) vectors or more, each row leaves 2 ^ left or more, and what the rows lead to sums up to what the kernel leads to; of a
-- kernel of 2 ^ (left + 1), a row leads on exactly where it narrows it
sums : ℕ → ℕ → Bool
sums left k = eqb (sum_below vectors (λ row. leads left (kernel_with k row))) (leads (suc left) k)

going : ℕ → ℕ → Bool
going left k = both (all vectors (λ row. member (kernel_with k row) (upper left))) (sums left k)

completing : ℕ → ℕ → Bool
completing left k = all vectors (λ row. eqb (completions k (ways left) row) (leads left (kernel_with k row)))

right : ℕ → Bool
right left = both (every (λ _. going left) 0 (upper (suc left))) (every (λ _. completing left) 0 (level (suc left)))

tested : (left : ℕ) → left < side → T (right left)
unfolding right going sums completing member level from upper ways leads kernel_with kernel_of sum_below completions joined dot ones
tested zero h = tt
tested (suc zero) h = tt
tested (suc (suc zero)) h = tt
tested (suc (suc (suc zero))) h = tt
tested (suc (suc (suc (suc left)))) h = absurd (omega arith)

-- ---- what they say
module _ (left k : ℕ) (h : left < side) where
  went : T (member k (upper (suc left))) → T (going left k)
  unfolding right
  went m =
      every_member (going left) (upper (suc left)) 0
      (both_left (every (λ _. going left) 0 (upper (suc left))) (every (λ _. completing left) 0 (level (suc left))) (tested left h)) k m

  pub upper_next : T (member k (upper (suc left))) → (row : ℕ) → row < vectors → T (member (kernel_with k row) (upper left))
  unfolding going
  upper_next m row l =
      all_at vectors (λ row. member (kernel_with k row) (upper left))
      (both_left (all vectors (λ row. member (kernel_with k row) (upper left))) (sums left k) (went m)) row l

  pub leads_sum : T (member k (upper (suc left))) → sum_below vectors (λ row. leads left (kernel_with k row)) ≡ leads (suc left) k
  unfolding going sums
  leads_sum m = eqb→eq _ _ (both_right (all vectors (λ row. member (kernel_with k row) (upper left))) (sums left k) (went m))

  pub completions_lead : T (member k (level (suc left))) → (row : ℕ) → row < vectors → completions k (ways left) row ≡ leads left (kernel_with k row)
  unfolding right completing
  completions_lead m row l =
      eqb→eq _ _
      (all_at vectors (λ row. eqb (completions k (ways left) row) (leads left (kernel_with k row)))
      (every_member (completing left) (level (suc left)) 0
      (both_right (every (λ _. going left) 0 (upper (suc left))) (every (λ _. completing left) 0 (level (suc left))) (tested left h)) k m) row l)

-- A kernel that leads to something has 2 ^ left vectors, and such a one leads to all ways.
pub leads_some : (left k x : ℕ) → x < leads left k → T (member k (level left))
unfolding leads
leads_some left k x h = by (member k (level left)) h
  where
    by : (b : Bool) → x < cond b (ways left) 0 → T b
    by true h = tt
    by false h = absurd (omega arith)

pub leads_all : (left k : ℕ) → T (member k (level left)) → leads left k ≡ ways left
unfolding leads
leads_all left k h = by (member k (level left)) h
  where
    by : (b : Bool) → T b → cond b (ways left) 0 ≡ ways left
    by true h = refl
    by false h = absurd h

pub level_upper : (left k : ℕ) → left ≤ side → T (member k (level left)) → T (member k (upper left))
unfolding upper from
level_upper left k h m =
    let e : suc side - left ≡ suc (side - left) = omega arith in
    rw e (member_front k (level left) (from (side - left) (suc left)) m)
