-- `layout::stage::set_bytes` meets its contract: a set is its tables (`all_bytes` of `laws.Rounds`).
-- Assumes nothing.
use Rattle.layout.proofs.laws.Rounds.{all_bytes}
use Rattle.layout.proofs.stage.set_bytes.Goals as goal

pub returns : goal.returns
returns c = all_bytes _ (search)
