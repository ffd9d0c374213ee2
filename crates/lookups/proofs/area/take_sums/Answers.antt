-- `lookups::area::take_sums` meets its contract. Standing byte q is that of the area at the place that `sum_at` ensures (`from_fn` of bits' `laws.Arrays`): `sums`,
-- written out.
-- Assumes nothing.
use Rattle.bits.proofs.laws.Arrays.{from_fn}
use Rattle.std.proofs.Common.{rules}
use Rattle.network.specs.Lookups.{sums}
use Rattle.lookups.proofs.area.take_sums.Goals as goal

pub returns : goal.returns
unfolding sums
returns c = from_fn _ (λ i y q k. search rules) c.from_fn.ensures.items
