-- `view::part::numbered_from` meets its contract. It cuts part n out of the section from its start: `numbered_from` written out, so the result is the
-- calls' equations put together.
-- Assumes nothing.
use Rattle.view.specs.Views.{numbered_from}
use Rattle.view.proofs.part.numbered_from.Goals as goal

pub returns : goal.returns
unfolding numbered_from
returns c = cc
