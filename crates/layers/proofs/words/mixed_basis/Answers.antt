-- `layers::words::mixed_basis` writes eight rows, for the bytes 2^0 to 2^7. The loop's invariant, `Stored` of matrices: the rows below k are the words
-- of their bytes. A turn multiplies 2^k by column q of the cipher's column mixing (`mixed_column`) and that by the matrix that was read, which makes the
-- word (`mixed_row`), and stores it as row k (`stored_more`); behind row 7 the basis is whole.
-- Assumes nothing.
use Rattle.matrices.proofs.laws.Rows.{stored_none, stored_more}
use Rattle.round.specs.State.{mix_rows, inv_mix_rows, entry}
use Rattle.layout.specs.Ciphers.{for_cipher}
use Rattle.layers.proofs.laws.Bases.{mixed_row}
use Rattle.layers.proofs.laws.Words.{mixed_column}
use Rattle.layers.proofs.words.mixed_basis.Goals as goal

pub loop-k-init : goal.loop-k-init
loop-k-init c = stored_none

pub loop-k-preserved : goal.loop-k-preserved
loop-k-preserved c =
    let column = mixed_column (entry (for_cipher c.args.cipher mix_rows inv_mix_rows)) c.args.q in
    stored_more c.loop-k.invariant c.loop-k-test.true c.set_row.ensures
    (mixed_row _ _ column _ _ _ _ c.words_of-rows.ensures c.power.ensures c.mixed.ensures c.by_words-v.ensures)
