-- `records::compare::all_same` meets its contract. The invariant, `Alike` of `laws.Compare`: the first i bytes of the parts are the same if `alike` says so, and if not the
-- parts differ. Behind the last it says whether the parts are the same (`alike_all`).
-- Assumes nothing.
use mathlib.Core.Path.{refl}
use Rattle.records.proofs.laws.Compare.{alike_all}
use Rattle.records.proofs.compare.all_same.Goals as goal

pub returns : goal.returns
returns c =
    alike_all c.loop-i.invariant refl (search)
