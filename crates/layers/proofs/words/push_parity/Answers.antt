-- `layers::words::push_parity` moves r up by one digit and puts the parity of the ones of a and b below, which is `dot` by definition. A word has at
-- most 64 ones, so the count fits; r is below 2^63, so no digit is lost.
-- Assumes nothing.
use Rattle.bits.specs.Vectors.{dot}
use borrow.Author.Rules.{rules}
use Rattle.layers.proofs.words.push_parity.Goals as goal

pub returns : goal.returns
unfolding dot
returns c = search rules
