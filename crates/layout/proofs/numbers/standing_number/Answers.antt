-- `layout::numbers::standing_number`: the number of a sum's encoding of the layer before, by stage as `standing_number` of specs/ has it. Each way
-- out has a law of `laws.Numbers`: the first half of round 1 stands behind the entry (`standing_one`), that of a later round behind the second
-- half before it (`standing_first`), a second half behind its first (`standing_second`), the exit behind the last round's second half (`standing_exit`). The round is
-- 1 to nr - 1 by the `requires` (`Round`), so nothing overflows or falls below 0; `Beyond` has no round, so it is never met.
-- Assumes nothing.
use Rattle.layout.proofs.laws.Numbers.{Round, round_first, round_second}
use Rattle.layout.proofs.laws.Numbers.{standing_one, standing_first, standing_second, standing_exit, number_below}
use native.Mathlib.Omega.{arith}
use borrow.Author.Rules.{rules}
use Rattle.layout.proofs.numbers.standing_number.Goals as goal

pub returns-then-r-eq1 : goal.returns-then-r-eq1
returns-then-r-eq1 c =
    (standing_one _ _ c.in-First.is c.if-r-eq1.true c.requires.2, number_below _ (omega arith))

pub returns-else-r-eq1 : goal.returns-else-r-eq1
returns-else-r-eq1 c =
    let round : Round c.args.rounds c.in-First.r = round_first _ c.in-First.is c.requires.1 in
    (standing_first _ _ c.in-First.is c.if-r-eq1.false round c.sum_number.ensures.0, number_below _ (omega (arith, c.sum_number.ensures.1, round)))

pub returns-in-Second : goal.returns-in-Second
returns-in-Second c =
    let round_2 : Round c.args.rounds c.in-Second.r = round_second _ c.in-Second.is c.requires.1 in
    (standing_second _ _ c.in-Second.is c.sum_number-in-Second.ensures.0, number_below _ (omega (arith, c.sum_number-in-Second.ensures.1, round_2)))

pub returns-in-Exit : goal.returns-in-Exit
returns-in-Exit c =
    (standing_exit _ _ c.in-Exit.is (omega arith) c.sum_number-in-Exit.ensures.0, number_below _ (omega (arith, c.sum_number-in-Exit.ensures.1)))

pub returns-in-Entry : goal.returns-in-Entry
returns-in-Entry c = (search rules, number_below _ (omega arith))
