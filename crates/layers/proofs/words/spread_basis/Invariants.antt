use Prim.Native.Nat.{◌*◌, ◌^◌}
use Rattle.matrices.specs.Rows.{rows_of}
use Rattle.matrices.proofs.laws.Rows.{Stored}
use Rattle.layers.specs.Layers.{spread_word}
use Rattle.layers.proofs.words.spread_basis.Given as goal

abbrev pub invariant-loop-k : goal.invariant-loop-k
invariant-loop-k l = Stored 8 (λ j. spread_word l.opened.rounds l.opened.bundle.now (rows_of (8 * l.n) l.m) l.n l.i l.first (2 ^ j)) l.initial.basis l.basis l.k
