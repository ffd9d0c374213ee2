use Prim.Native.Nat.{◌*◌}
use Rattle.answers.proofs.laws.Search.{Searched}
use Rattle.matrices.specs.Matrices.{matrix_of}
use Rattle.blocks.specs.Blocks.{block_bad}
use Rattle.blocks.proofs.block_row_bad.Given as goal

abbrev pub invariant-loop-j : goal.invariant-loop-j
invariant-loop-j l = Searched (2 * l.w) (block_bad (2 * l.w) (matrix_of l.w l.p) l.i) l.j
