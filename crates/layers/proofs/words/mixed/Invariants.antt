use Rattle.bits.proofs.laws.Joined.{Joined}
use Rattle.round.specs.State.{mix_rows, inv_mix_rows, entry}
use Rattle.layout.specs.Ciphers.{for_cipher}
use Rattle.layers.proofs.laws.Words.{mixed_by}
use Rattle.layers.proofs.words.mixed.Given as goal

abbrev pub invariant-loop-t : goal.invariant-loop-t
invariant-loop-t l = Joined 8 4 (mixed_by (entry (for_cipher l.cipher mix_rows inv_mix_rows)) l.q l.y) l.v l.t
