-- `layout::stage::place_of` meets its contract. For each of the three numbers of rounds, by the range that n is in, with a law of `laws.Place` for each: the
-- entry (`in_entry`), the rounds (`in_rounds`), the exit (`in_exit`), behind the last lookup (`beyond`). Their premises are the range, the numbers of
-- the exit and of the end, and what the call ensures.
-- Assumes nothing.
use Rattle.layout.proofs.laws.Place.{in_entry, in_rounds, in_exit, beyond}
use native.Mathlib.Omega.{arith}
use Rattle.layout.proofs.stage.place_of.Goals as goal

pub returns-in-0-to-495 : goal.returns-in-0-to-495
returns-in-0-to-495 c = search in_entry

pub returns-in-496-to-2511 : goal.returns-in-496-to-2511
returns-in-496-to-2511 c = search (in_rounds, arith)

pub returns-in-2512-to-3007 : goal.returns-in-2512-to-3007
returns-in-2512-to-3007 c = search (in_exit, arith)

pub returns-in_default-n : goal.returns-in_default-n
returns-in_default-n c = search (beyond, arith)

pub returns-in-0-to-495-n : goal.returns-in-0-to-495-n
returns-in-0-to-495-n c = search in_entry

pub returns-in-496-to-2959 : goal.returns-in-496-to-2959
returns-in-496-to-2959 c = search (in_rounds, arith)

pub returns-in-2960-to-3455 : goal.returns-in-2960-to-3455
returns-in-2960-to-3455 c = search (in_exit, arith)

pub returns-in_default-n-2 : goal.returns-in_default-n-2
returns-in_default-n-2 c = search (beyond, arith)

pub returns-in-0-to-495-n-2 : goal.returns-in-0-to-495-n-2
returns-in-0-to-495-n-2 c = search in_entry

pub returns-in-496-to-3407 : goal.returns-in-496-to-3407
returns-in-496-to-3407 c = search (in_rounds, arith)

pub returns-in-3408-to-3903 : goal.returns-in-3408-to-3903
returns-in-3408-to-3903 c = search (in_exit, arith)

pub returns-in_default-n-3 : goal.returns-in_default-n-3
returns-in_default-n-3 c = search (beyond, arith)
