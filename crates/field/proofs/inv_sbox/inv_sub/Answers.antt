-- `field::inv_sbox::inv_sub` meets its contract. The constant that it reads is `inv_sbox_table` of `laws.Tables`, which undoes the S-box's table, as
-- is tested at every byte (`inv_sbox_at` of `laws.Sbox`); a byte is an index of its 256 entries.
-- Assumes nothing.
use mathlib.Core.Path.{ap, ◌∙◌}
use Rattle.bits.specs.Lists.{at}
use Rattle.field.proofs.laws.Tables.{inv_sbox_table}
use Rattle.field.proofs.laws.Sbox.{inv_sbox_at}
use borrow.Author.Rules.{rules}
use Rattle.field.proofs.inv_sbox.inv_sub.Goals as goal

pub returns : goal.returns
unfolding inv_sbox_table
returns c = ap (at inv_sbox_table) c.from.ensures ∙ inv_sbox_at c.args.x (search rules)
