-- `lookups::pair::xor_entry` meets its contract. The byte that holds entry e, and its half: `nibble`, written out, so the result is the call's equation.
-- Assumes nothing.
use Rattle.bits.specs.Nibbles.{nibble}
use borrow.Author.Rules.{rules}
use Rattle.lookups.proofs.pair.xor_entry.Goals as goal

pub returns : goal.returns
unfolding nibble
returns c = (cc, search rules)
