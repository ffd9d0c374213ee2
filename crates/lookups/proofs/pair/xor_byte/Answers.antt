-- `lookups::pair::xor_byte` meets its contract. The code reads two bytes, looks up an entry for the high halves and one for the low halves, and
-- writes both as one byte: `xor_byte`, by what the calls ensure (`pair_read` of `laws.Area`).
-- Assumes nothing.
use Rattle.lookups.proofs.laws.Area.{pair_read}
use Rattle.lookups.proofs.pair.xor_byte.Goals as goal

pub returns : goal.returns
returns c =
    pair_read c.half_of.ensures.0 c.half_of-2.ensures.0 c.index_of.ensures.0 c.xor_entry-h.ensures.0
    c.half_of-3.ensures.0 c.half_of-4.ensures.0 c.index_of-e.ensures.0 c.index_of-e.ensures.1
    c.xor_entry-l.ensures.0 c.joined.ensures
