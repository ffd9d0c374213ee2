-- `lookups::layer::xor_in` meets its contract. The two places that XOR lookup x reads are those of the one group of 16 words (`xor_16` of
-- `laws.Layers`) or of one of the four groups of 4 words (`xor_4`), by the width. That both lie in the area, and that no sum wraps, the checker finds.
-- Assumes nothing.
use Rattle.lookups.proofs.laws.Layers.{xor_16, xor_4}
use Rattle.lookups.proofs.layer.xor_in.Goals as goal

pub returns-then-width-eq16 : goal.returns-then-width-eq16
returns-then-width-eq16 c = search xor_16

pub returns-else-width-eq16 : goal.returns-else-width-eq16
returns-else-width-eq16 c = search xor_4
