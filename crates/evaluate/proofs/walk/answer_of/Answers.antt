-- `evaluate::walk::answer_of` meets its contract. Each way out has a law of `laws.Calls`, whose premises are the tests on the way: a block of another
-- length (`wrong_block`), a walk that has not made all lookups (`unfinished`). Else the block is left as the standing bytes, as `store` ensures, and
-- the answer is fetched (`fetched`). The laws are over the sizes of a set.
-- Assumes nothing.
use mathlib.Core.Path.{refl}
use Rattle.layout.proofs.laws.Lookup.{own_sizes}
use Rattle.layout.proofs.laws.Rounds.{sizes_of}
use Rattle.evaluate.proofs.laws.Calls.{wrong_block, unfinished, fetched}
use Rattle.evaluate.proofs.walk.answer_of.Goals as goal

pub returns-then-block-ne16 : goal.returns-then-block-ne16
returns-then-block-ne16 c = wrong_block own_sizes _ _ (search)

pub returns-then-walk-all : goal.returns-then-walk-all
returns-then-walk-all c =
    unfinished (sizes_of c.lookups_in-all.ensures refl) _ _ (search) (search)

pub returns : goal.returns
returns c =
    fetched (sizes_of c.lookups_in-all.ensures refl) _ _ _ (search) (search) c.store.ensures
