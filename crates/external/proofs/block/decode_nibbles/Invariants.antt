use Rattle.bits.specs.Encodings.{decode}
use Rattle.bits.proofs.laws.Filled.{Filled}
use Rattle.bundle.specs.Format.{encoding_of}
use Rattle.external.proofs.laws.Code.{byte_by}
use Rattle.external.proofs.block.decode_nibbles.Given as goal

abbrev pub invariant-loop-i : goal.invariant-loop-i
invariant-loop-i l = Filled 16 (byte_by decode (encoding_of l.rounds l.bundle) l.first l.src) l.dst l.i
