-- `bundle::frame::pair_bad` meets its contract. The code reads the pair's offset and length, its section's length and what the section has to
-- start behind; then each test has its way out, and a law of `laws.Code`, whose premises are what the calls ensure and the tests on the way: another
-- length (`pair_length`), a start too early (`pair_order`), an end behind the bundle (`pair_end`), or none of the three (`pair_right`).
-- No sum wraps: numbers of four bytes are below 2^32.
-- Assumes nothing.
use Rattle.bundle.proofs.laws.Code.{pair_length, pair_order, pair_end, pair_right}
use Rattle.bundle.proofs.frame.pair_bad.Goals as goal

pub returns-then-n-want : goal.returns-then-n-want
returns-then-n-want c = pair_length _ _ _ (search) (search) c.if-n-want.true

pub returns-then-o-start : goal.returns-then-o-start
returns-then-o-start c =
    pair_order _ _ _ (search) (search) c.if-n-want.false (search) (search) c.if-o-start.true

pub returns-then-bundle-o : goal.returns-then-bundle-o
returns-then-bundle-o c =
    pair_end _ _ _ (search) (search) c.if-n-want.false (search) (search) c.if-o-start.false c.if-bundle-o.true

pub returns : goal.returns
returns c =
    pair_right _ _ _ (search) (search) c.if-n-want.false (search) (search) c.if-o-start.false c.if-bundle-o.false
