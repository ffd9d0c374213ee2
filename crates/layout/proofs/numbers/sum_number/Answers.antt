-- `layout::numbers::sum_number`: the number of a sum's encoding as `sum_number` of specs/ gives it, written out for halves of four sums; `omega` has
-- the bounds of `first` and q, under which nothing overflows.
-- Assumes nothing.
use Rattle.network.specs.Numbers.{encoding_number}
use native.Mathlib.Omega.{arith}
use Rattle.layout.proofs.numbers.sum_number.Goals as goal

pub returns : goal.returns
unfolding encoding_number
returns c = omega arith
