-- `bundle::frame::shortest_of` meets its contract. It is `shortest` written out: the pairs' 40 bytes and the five sections' lengths. No sum wraps: a
-- section has at most 7,840 parts of at most 2,048 bytes.
-- Assumes nothing.
use Rattle.bundle.specs.Format.{shortest}
use borrow.Author.Rules.{rules}
use Rattle.bundle.proofs.frame.shortest_of.Goals as goal

pub returns : goal.returns
unfolding shortest
returns c = search rules
