-- `walk_cases::looked_up` ensures nothing: what is left is what `look_up_at` asks. `place_of` ensures the place of lookup n, which is one of the set's; so its
-- table lies within the set, which the memory is at least as long as (`stands_in` of passes). The sizes of a set are those of the code, `ten`.
-- Assumes nothing.
use Rattle.rounds.proofs.laws.Known.{ten_rounds}
use Rattle.layout.proofs.laws.Ten.{ten, in_set}
use Rattle.passes.proofs.laws.Places.{stands_in}
use native.Mathlib.Omega.{arith}
use Rattle.walk_cases.proofs.looked_up.Goals as goal

pub look_up_at-read-requires : goal.look_up_at-read-requires
look_up_at-read-requires g c =
    stands_in _ _ (in_set _ (omega arith)) c.place_of-p.ensures ten_rounds (omega (arith, ten.all_bytes))
