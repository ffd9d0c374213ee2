-- `chains::whole::take_off` meets its contract: `decode_output` refuses (`not_uncoded` of `laws.Whole`), or `decipher` decides where the cipher is the
-- forward one (`by_deciphering`) and `encipher` else (`by_enciphering`). The premises are the test of the cipher and what the two calls ensure.
-- Assumes nothing.
use mathlib.Core.Path.{refl}
use Rattle.chains.proofs.laws.Whole.{not_uncoded, by_deciphering, by_enciphering}
use Rattle.chains.proofs.whole.take_off.Goals as goal

pub returns-in_err-decode_output : goal.returns-in_err-decode_output
returns-in_err-decode_output c =
    not_uncoded _ _ _ _ _ refl c.decode_output.ensures.answer c.from_residual.ensures c.in_err-decode_output.was

pub returns-then-cipher-eq0 : goal.returns-then-cipher-eq0
returns-then-cipher-eq0 c =
    by_deciphering _ _ _ _ _ refl c.decode_output.ensures.answer _ c.in_ok-decode_output.was c.decode_output.ensures.block c.decipher.ensures.answer (search)
    c.decipher.ensures.block

pub returns-else-cipher-eq0 : goal.returns-else-cipher-eq0
returns-else-cipher-eq0 c =
    by_enciphering _ _ _ _ _ refl c.decode_output.ensures.answer _ c.in_ok-decode_output.was c.decode_output.ensures.block c.encipher.ensures.answer (search)
    c.encipher.ensures.block
