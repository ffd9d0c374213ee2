-- `catalogue::ways_at` meets its contract. The constant that it reads is `ways_table` of `laws.Tables`, each of whose entries is `ways` of its place.
-- Assumes nothing.
use Rattle.catalogue.proofs.laws.Tables.{ways_table, ways_at}
use Rattle.catalogue.proofs.ways_at.Goals as goal

pub returns : goal.returns
unfolding ways_table
returns c = ways_at c.args.left c.requires
