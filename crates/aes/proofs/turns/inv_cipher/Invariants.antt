use Rattle.aes.proofs.laws.Turns.{InvRounded}
use Rattle.aes.proofs.turns.inv_cipher.Given as goal

abbrev pub invariant-loop-n : goal.invariant-loop-n
invariant-loop-n l = InvRounded l.rounds l.w l.initial.t l.t l.n
