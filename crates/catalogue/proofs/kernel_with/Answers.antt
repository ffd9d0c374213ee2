-- `catalogue::kernel_with` meets its contract. The constant that it reads is `kernel_table` of `laws.Tables`, each of whose entries is the kernel of its row.
-- Assumes nothing.
use Rattle.catalogue.proofs.laws.Tables.{kernel_table, with_row}
use Rattle.catalogue.proofs.kernel_with.Goals as goal

pub returns : goal.returns
unfolding kernel_table
returns c = with_row c.args.kernel c.args.row c.requires
