use Rattle.aes.proofs.laws.Turns.{Rounded}
use Rattle.aes.proofs.turns.cipher.Given as goal

abbrev pub invariant-loop-n : goal.invariant-loop-n
invariant-loop-n l = Rounded l.rounds l.w l.initial.t l.t l.n
