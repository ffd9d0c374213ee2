use Rattle.bits.proofs.laws.Parts.{Parts}
use Rattle.catalogue.specs.Catalogue.{catalogue_length}
use Rattle.streams.specs.Lines.{matrix_room}
use Rattle.catalogue_list.proofs.laws.Lines.{line_at}
use Rattle.catalogue_list.proofs.write_lines.Given as goal

abbrev pub invariant-loop-position : goal.invariant-loop-position
invariant-loop-position l = Parts catalogue_length matrix_room line_at l.initial.text l.text l.position
