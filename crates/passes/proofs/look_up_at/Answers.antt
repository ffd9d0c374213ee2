-- `passes::look_up_at` meets its contract. By the `requires` the table at the place ends within the set, so no sum wraps, and the part that is lent has the
-- table's length; `lookup_in` makes the lookup over it, and `width_of` ensures the bytes of a word (`made_at` of `laws.Places`).
-- Assumes nothing.
use Rattle.passes.proofs.laws.Places.{made_at}
use Rattle.passes.proofs.look_up_at.Goals as goal

pub returns : goal.returns
returns c =
    made_at c.lookup_in-read.ensures c.width_of.ensures.0
