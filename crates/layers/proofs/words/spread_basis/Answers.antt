-- `layers::words::spread_basis` writes eight rows, for the bytes 2^0 to 2^7. The loop's invariant, `Stored` of matrices: the rows below k
-- are the words of their bytes (`spread_word`). A turn takes the column of m at digit k of byte i, which is the product with 2^k at i of n bytes, and
-- multiplies each byte by its byte matrix, which makes the word (`spread_row`), and stores it as row k (`stored_more`); behind row 7 the basis is
-- whole. The section that `by_bytes` asks for has all byte matrices, since the bundle's frame is right (`frame_of`, `byte_section_long`).
-- Assumes nothing.
use Rattle.matrices.proofs.laws.Rows.{stored_none, stored_more}
use Rattle.inverse_matrices.proofs.laws.Code.{frame_of}
use Rattle.layers.proofs.laws.Bases.{byte_count, byte_section_long, spread_row}
use native.Mathlib.Omega.{arith}
use Rattle.layers.proofs.words.spread_basis.Goals as goal

pub loop-k-init : goal.loop-k-init
loop-k-init c = stored_none

pub by_bytes-requires : goal.by_bytes-requires
by_bytes-requires c =
    let framed = frame_of _ _ c.args.opened.now.accepted in
    let long = byte_section_long _ _ _ _ (byte_count _) c.byte_matrices-section.ensures framed in
    (omega (arith, long, c.requires), omega (arith, c.requires), omega (arith, c.requires))

pub loop-k-preserved : goal.loop-k-preserved
loop-k-preserved c = search (stored_more, spread_row)
