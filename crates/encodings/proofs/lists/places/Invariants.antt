use Rattle.encodings.proofs.laws.Places.{Undone}
use Rattle.encodings.proofs.lists.places.Given as goal

abbrev pub invariant-loop-i : goal.invariant-loop-i
invariant-loop-i l = Undone l.p l.dst l.i
