-- `bundle::sections::part_at` meets its contract. It cuts part n out of section s: `part_at` written out, so the result is the calls' equations put
-- together.
-- Assumes nothing.
use Rattle.bundle.specs.Format.{part_at}
use Rattle.bundle.proofs.sections.part_at.Goals as goal

pub returns : goal.returns
unfolding part_at
returns c = cc
