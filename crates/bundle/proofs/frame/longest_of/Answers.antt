-- `bundle::frame::longest_of` meets its contract: one number for ten rounds (`high_ten` of `laws.Code`), another for 12 and 14 (`high_other`).
-- Assumes nothing.
use Rattle.bundle.proofs.laws.Code.{high_ten, high_other}
use Rattle.bundle.proofs.frame.longest_of.Goals as goal

pub returns-then-rounds-eq-TEN : goal.returns-then-rounds-eq-TEN
returns-then-rounds-eq-TEN c = high_ten _ (search) (search)

pub returns-else-rounds-eq-TEN : goal.returns-else-rounds-eq-TEN
returns-else-rounds-eq-TEN c = high_other _ (search) (search)
