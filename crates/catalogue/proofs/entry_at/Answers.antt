-- `catalogue::entry_at` meets its contract: beyond the list's length the call is refused, below it the element is given (`gives_refused` and `gives_matrix` of
-- `laws.Proved`).
-- Assumes nothing.
use native.Mathlib.Omega.{arith}
use Rattle.catalogue.proofs.laws.Proved.{gives_matrix, gives_refused}
use Rattle.catalogue.proofs.entry_at.Goals as goal

pub returns-then-position-ge-MATRICES : goal.returns-then-position-ge-MATRICES
returns-then-position-ge-MATRICES c =
    gives_refused c.args.position (omega arith)

pub returns : goal.returns
returns c =
    gives_matrix c.args.position (omega arith) c.number_at.ensures
