-- `lookups::layer::lookup_in` meets its contract. Lookup j is of one of three kinds, each with a way out and a law of `laws.Layers`: below 16 a
-- spread lookup, at the standing byte that `source_of` ensures for the cipher (`by_spread`); from 16 on an XOR lookup, which is all unless it is
-- the last (`by_xor`); and the last, behind which the sums are copied to the standing bytes and the area is cleared (`by_last`). The laws' premises
-- are the tests on the way and what the calls ensure; the place is where `spread` or `xor_place` says. What the calls ask of an
-- XOR lookup is the width and the length of its table, by the `requires`.
-- Assumes nothing.
use Rattle.lookups.proofs.laws.Layers.{xor_sized, xor_within, xor_width, xor_below}
use Rattle.lookups.proofs.laws.Layers.{by_spread, by_xor, by_last}
use native.Mathlib.Omega.{arith}
use Rattle.lookups.proofs.layer.lookup_in.Goals as goal

pub returns-then-j-lt-SPREADS : goal.returns-then-j-lt-SPREADS
returns-then-j-lt-SPREADS c = search by_spread

pub xor_in-e-requires : goal.xor_in-e-requires
xor_in-e-requires c = search (xor_within, xor_sized)

pub overflow_add-j : goal.overflow_add-j
overflow_add-j c =
    omega (arith, xor_below c.requires (search))

pub lookups_of-requires : goal.lookups_of-requires
lookups_of-requires c = search xor_width

pub returns-then-j-lookups_of : goal.returns-then-j-lookups_of
returns-then-j-lookups_of c = search by_xor

pub finish-requires : goal.finish-requires
finish-requires c = search xor_width

pub returns : goal.returns
returns c = search by_last
