use Rattle.catalogue.proofs.laws.NextRow.{Searching}
use Rattle.catalogue.proofs.next_row.Given as goal

abbrev pub invariant-loop-row : goal.invariant-loop-row
invariant-loop-row l = Searching l.kernel l.each l.position l.row l.rest
