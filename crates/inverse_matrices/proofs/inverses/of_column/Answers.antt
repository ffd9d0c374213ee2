-- `inverse_matrices::inverses::of_column`: the inverse of the matrix that part n of the bundle's column matrices
-- writes. An accepted bundle's part has its 128 bytes, and its matrix has an inverse (`column_part` of
-- `laws.Inverses`); that its words are the front of dst the search finds, from what `read` ensures.
-- Assumes nothing.
use Rattle.inverse_matrices.proofs.laws.Inverses.{column_part}
use borrow.Author.Rules.{rules}
use Rattle.inverse_matrices.proofs.inverses.of_column.Goals as goal

pub read-requires : goal.read-requires
read-requires c =
    let opened = c.args.opened.now in
    let known = column_part _ _ _ opened.bytes opened.accepted _ c.requires.0 c.part-matrix.ensures in
    search rules
