-- `lookups::area::xor` meets its contract. The code reads two nibbles, looks their entry up and writes it over the first: `set_nibble` and `nibble`, by what the calls
-- ensure (`xor_read` of `laws.Area`).
-- Assumes nothing.
use Rattle.lookups.proofs.laws.Area.{xor_read}
use Rattle.lookups.proofs.area.xor.Goals as goal

pub returns : goal.returns
returns c =
    xor_read c.half_of-a.ensures.0 c.half_of-b.ensures.0 c.index_of-e.ensures.0 c.index_of-e.ensures.1
    c.xor_entry-v.ensures.0 c.with_half.ensures
