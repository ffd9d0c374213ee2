-- `passes::look_up` meets its contract. `place_of` ensures the place of lookup n, whose table lies in the set (`stands_in` of `laws.Places`), and the lookup that
-- `look_up_at` makes there is the walk's (`lookup_made`).
-- Assumes nothing.
use Rattle.passes.proofs.laws.Places.{stands_in, lookup_made}
use native.Mathlib.Omega.{arith}
use Rattle.passes.proofs.look_up.Goals as goal

pub look_up_at-requires : goal.look_up_at-requires
look_up_at-requires c =
    stands_in _ _ c.requires.within c.place_of.ensures c.requires.rounds (omega arith)

pub returns : goal.returns
returns c =
    lookup_made c.requires.within c.place_of.ensures c.look_up_at.ensures
