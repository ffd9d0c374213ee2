-- `inverse_matrices::inverses::of_input`: the inverse of the matrix that the bundle's input part writes. An accepted
-- bundle's part has its 2,048 bytes, and its matrix has an inverse (`input_part` of `laws.Inverses`); the words of the
-- inverse are all of dst (`input_inverse_lem`).
-- Assumes nothing.
use Rattle.inverse_matrices.proofs.laws.Inverses.{input_part, input_inverse_lem}
use borrow.Author.Rules.{rules}
use Rattle.inverse_matrices.proofs.inverses.of_input.Goals as goal

pub read-requires : goal.read-requires
read-requires c =
    let opened = c.args.opened.now in
    let known = input_part _ _ _ opened.bytes opened.accepted c.part-matrix.ensures in
    search rules

pub returns : goal.returns
returns c =
    input_inverse_lem _ _ _ c.args.dst.now _ c.part-matrix.ensures c.requires c.read.ensures
