-- `field::sbox::sbox_table` meets its contract. The constant is `sbox_table` of `laws.Tables`: a list is its entries, tabulated, and each is tested
-- against the rule (`sbox_at` of `laws.Sbox`).
-- Assumes nothing.
use mathlib.Core.Path.{refl, sym, ◌∙◌}
use Rattle.bits.proofs.laws.Lists.{tabulate_at, tabulate_ext}
use Rattle.field.proofs.laws.Tables.{sbox_table}
use Rattle.field.proofs.laws.Sbox.{sbox_at}
use Rattle.field.proofs.sbox.sbox_table.Goals as goal

pub returns : goal.returns
unfolding sbox_table
returns c = sym (tabulate_at 256 sbox_table refl) ∙ tabulate_ext 256 _ _ sbox_at
