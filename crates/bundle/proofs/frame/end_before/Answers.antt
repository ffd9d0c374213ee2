-- `bundle::frame::end_before` meets its contract. The first section has to start behind the pairs, which end at byte 40 (`before_first` of
-- `laws.Code`); each other behind the end of the one before it, which is offset and length of its pair added up (`before_next`). No sum wraps:
-- numbers of four bytes are below 2^32.
-- Assumes nothing.
use Rattle.bundle.proofs.laws.Code.{before_first, before_next}
use Rattle.bundle.proofs.frame.end_before.Goals as goal

pub returns-then-i-eq0 : goal.returns-then-i-eq0
returns-then-i-eq0 c = before_first _ _ (search)

pub returns : goal.returns
returns c =
    before_next _ _ (search) c.number_at-o.ensures.0 c.number_at-n.ensures.0
