-- `field::share` meets its contract. The code's test is the one of the contract's `cond`: in each branch the test's answer decides it.
-- Assumes nothing.
use borrow.Author.Tests.{eq-eqb, ne_eqb}
use Rattle.field.proofs.share.Goals as goal

pub returns-then-b-eq1 : goal.returns-then-b-eq1
returns-then-b-eq1 c = simp (eq-eqb _ _ c.if-b-eq1.true)

pub returns-else-b-eq1 : goal.returns-else-b-eq1
returns-else-b-eq1 c = simp (ne_eqb _ _ c.if-b-eq1.false)
