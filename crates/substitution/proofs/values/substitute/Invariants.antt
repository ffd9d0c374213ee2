use Rattle.bits.proofs.laws.Filled.{Filled}
use Rattle.field.specs.Sbox.{sbox_of, inv_sbox_of}
use Rattle.layout.specs.Ciphers.{for_cipher}
use Rattle.substitution.specs.Substituted.{behind_at}
use Rattle.substitution.proofs.values.substitute.Given as goal

abbrev pub invariant-loop-x : goal.invariant-loop-x
invariant-loop-x l =
    Filled 256 (behind_at (for_cipher l.cipher sbox_of inv_sbox_of) l.inverse l.before l.behind l.read) l.dst l.x
