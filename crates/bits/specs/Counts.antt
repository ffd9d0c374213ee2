-- The numbers that pass a test, and sums. Definitions only; their laws are in proofs/laws/Counts.antt.
use Rattle.std.specs.Prelude.{Bool, cond, List, [], ◌∷◌, ◌++◌, ℕ, zero, suc, ◌+◌}

-- The numbers below a bound that pass a test, in rising order.
unfoldable pub chosen : (ℕ → Bool) → ℕ → List ℕ
chosen test zero = []
chosen test (suc v) = chosen test v ++ cond (test v) (v ∷ []) []

-- The sum f 0 + f 1 + .. + f (n - 1).
unfoldable pub sum_below : ℕ → (ℕ → ℕ) → ℕ
sum_below zero f = 0
sum_below (suc n) f = sum_below n f + f n
