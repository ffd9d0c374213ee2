-- `field::sbox::sub` meets its contract. The constant that it reads is `sbox_table` of `laws.Tables`, which is tested against the rule at every
-- byte (`sbox_at` of `laws.Sbox`); a byte is an index of its 256 entries.
-- Assumes nothing.
use mathlib.Core.Path.{ap, ◌∙◌}
use Rattle.bits.specs.Lists.{at}
use Rattle.field.proofs.laws.Tables.{sbox_table}
use Rattle.field.proofs.laws.Sbox.{sbox_at}
use borrow.Author.Rules.{rules}
use Rattle.field.proofs.sbox.sub.Goals as goal

pub returns : goal.returns
unfolding sbox_table
returns c = ap (at sbox_table) c.from.ensures ∙ sbox_at c.args.x (search rules)
