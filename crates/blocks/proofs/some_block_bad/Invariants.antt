use Prim.Native.Nat.{◌*◌}
use Rattle.answers.proofs.laws.Search.{Searched}
use Rattle.matrices.specs.Matrices.{matrix_of}
use Rattle.blocks.specs.Blocks.{block_row_bad}
use Rattle.blocks.proofs.some_block_bad.Given as goal

abbrev pub invariant-loop-i : goal.invariant-loop-i
invariant-loop-i l = Searched (2 * l.w) (block_row_bad (2 * l.w) (matrix_of l.w l.p)) l.i
