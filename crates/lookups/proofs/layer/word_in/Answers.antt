-- `lookups::layer::word_in` meets its contract: the numbers of a word of a group, at the two widths (`word_at` of `laws.Words`). That nothing wraps the checker finds.
-- Assumes nothing.
use Rattle.lookups.proofs.laws.Words.{word_at}
use Rattle.lookups.proofs.layer.word_in.Goals as goal

pub returns : goal.returns
returns c = search word_at
