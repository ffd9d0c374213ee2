-- `streams::line::write_digits` meets its contract. The invariant: the digits still to write, and then those written, are the digits of n. A turn moves one over
-- (`digits_more` of `laws.Digits`).
-- Assumes nothing.
use mathlib.Core.Path.{◌∙◌}
use native.Mathlib.Omega.{arith}
use Rattle.streams.proofs.laws.Digits.{digits_more}
use Rattle.streams.proofs.line.write_digits.Goals as goal

pub loop-i-preserved : goal.loop-i-preserved
loop-i-preserved c =
    let l = c.loop-i in
    digits_more c.args.base l.i c.args.k l.rest c.glyph.result l.out c.loop-i-test.true (omega arith) (omega arith) c.glyph.ensures ∙ l.invariant
