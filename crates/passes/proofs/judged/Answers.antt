-- `passes::judged`: each way out has a law of `laws.Judged`, whose premises are the tests on the way: a set of another length (`bad_set`), a block that is not of 16
-- bytes (`bad_block`), none of these (`good`). They are over the sizes of a set, of which the code works out the bytes.
-- Assumes nothing.
use mathlib.Core.Path.{refl}
use Rattle.layout.proofs.laws.Rounds.{sizes_of}
use Rattle.passes.proofs.laws.Judged.{bad_set, bad_block, good}
use Rattle.passes.proofs.judged.Goals as goal

pub returns-then-set-bytes : goal.returns-then-set-bytes
returns-then-set-bytes c =
    bad_set (sizes_of refl c.set_bytes-bytes.ensures) _ _ (search)

pub returns-then-block-ne16 : goal.returns-then-block-ne16
returns-then-block-ne16 c =
    bad_block (sizes_of refl c.set_bytes-bytes.ensures) _ _ (search) (search)

pub returns : goal.returns
returns c =
    good (sizes_of refl c.set_bytes-bytes.ensures) _ _ (search) (search)
