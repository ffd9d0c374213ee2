use Rattle.bits.specs.Words.{value}
use Rattle.bits.proofs.laws.Filled.{Filled}
use Rattle.layers.proofs.laws.Words.{byte_times}
use Rattle.layers.proofs.words.by_bytes.Given as goal

abbrev pub invariant-loop-j : goal.invariant-loop-j
invariant-loop-j l = Filled 16 (byte_times l.section l.first l.n (value l.v)) l.b l.j
