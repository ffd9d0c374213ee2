-- `field::inv_sbox::inv_sbox_table` meets its contract. The constant is `inv_sbox_table` of `laws.Tables`: a list is its entries, tabulated, and each is tested
-- against the rule (`inv_sbox_at` of `laws.Sbox`).
-- Assumes nothing.
use mathlib.Core.Path.{refl, sym, ◌∙◌}
use Rattle.bits.proofs.laws.Lists.{tabulate_at, tabulate_ext}
use Rattle.field.proofs.laws.Tables.{inv_sbox_table}
use Rattle.field.proofs.laws.Sbox.{inv_sbox_at}
use Rattle.field.proofs.inv_sbox.inv_sbox_table.Goals as goal

pub returns : goal.returns
unfolding inv_sbox_table
returns c = sym (tabulate_at 256 inv_sbox_table refl) ∙ tabulate_ext 256 _ _ inv_sbox_at
