use Rattle.answers.proofs.laws.Search.{Searched}
use Rattle.judgement.proofs.laws.Encodings.{bad_in, Imaged}
use Rattle.judgement.proofs.search.first_bad_encoding.Given as goal

abbrev pub invariant-loop-i : goal.invariant-loop-i
invariant-loop-i l = Imaged l.lists l.n l.met l.i

abbrev pub invariant-loop-n : goal.invariant-loop-n
invariant-loop-n l = Searched l.count (bad_in l.lists) l.n
