-- `view::starts::starts_in` meets its contract. In a bundle that the frame's judgement accepts, the pairs are there to be read (`pairs_there` of
-- bundle's `laws.Code`), and the starts are their five offsets (`starts_are` of `laws.Code`). In one that it refuses they are 0 (`starts_none`).
-- Assumes nothing.
use Prim.Native.Nat.{◌≤◌}
use lib.ListN.{length}
use Rattle.bundle.proofs.laws.Code.{pairs_there}
use Rattle.view.proofs.laws.Code.{starts_are, starts_none}
use native.Mathlib.Omega.{arith}
use Rattle.view.proofs.starts.starts_in.Goals as goal
use Rattle.view.proofs.starts.starts_in.Goals.{In-Ok}

-- the five pairs are there
pairs : (c : In-Ok) → 40 ≤ length c.args.bundle.now
pairs c = pairs_there _ _ c.judge_frame.ensures c.in-Ok.is

pub number_at-requires : goal.number_at-requires
number_at-requires c = omega (arith, pairs (goal.at.number_at-requires c).In-Ok)

pub number_at-requires-in-Ok : goal.number_at-requires-in-Ok
number_at-requires-in-Ok c = omega (arith, pairs (goal.at.number_at-requires-in-Ok c).In-Ok)

pub number_at-requires-in-Ok-2 : goal.number_at-requires-in-Ok-2
number_at-requires-in-Ok-2 c = omega (arith, pairs (goal.at.number_at-requires-in-Ok-2 c).In-Ok)

pub number_at-requires-in-Ok-3 : goal.number_at-requires-in-Ok-3
number_at-requires-in-Ok-3 c = omega (arith, pairs (goal.at.number_at-requires-in-Ok-3 c).In-Ok)

pub number_at-requires-in-Ok-4 : goal.number_at-requires-in-Ok-4
number_at-requires-in-Ok-4 c = omega (arith, pairs (goal.at.number_at-requires-in-Ok-4 c).In-Ok)

pub returns-in-Ok : goal.returns-in-Ok
returns-in-Ok c =
    starts_are _ _ (search) c.in-Ok.is (search) (search) (search) (search) (search)

pub returns-in-Err : goal.returns-in-Err
returns-in-Err c = starts_none _ _ (search) c.in-Err.is
