-- `streams::line::digit_count` meets its contract. The invariant: what is left of n is `rest` once k digits are taken, and k - 1 digits do not hold n. A turn takes
-- one more (`tenth_more`, `more_digits` of `laws.Digits`), and where nothing is left k digits hold n (`digits_hold`).
-- Assumes nothing.
use native.Mathlib.Omega.{arith}
use Rattle.streams.proofs.laws.Digits.{tenth_more, more_digits, digits_hold}
use Rattle.streams.proofs.line.digit_count.Goals as goal

pub loop-rest-preserved : goal.loop-rest-preserved
loop-rest-preserved c =
    let l = c.loop-rest in
    (omega arith, omega arith, tenth_more c.args.n l.k l.rest l.invariant.2, λ _. more_digits c.args.n l.k l.rest l.invariant.2 (omega arith))

pub returns : goal.returns
returns c =
    let l = c.loop-rest in
    (omega arith, digits_hold c.args.n l.k l.rest l.invariant.2 c.loop-rest-test.false, l.invariant.3)
