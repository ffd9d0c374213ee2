-- `streams::stream::receive` meets its contract. The invariant, `Receiving` of `laws.Receiving`: what was read fits the memory, which has kept its length. A turn
-- lends the memory from there on, which comes back as long as it was, with a count within it. The ways out: a read that gave none, where the
-- input ended or the read failed (`received_last`), and the memory is full (`received`). The measure is what is still free.
-- Assumes nothing.
use Rattle.streams.proofs.laws.Receiving.{received, received_last}
use Rattle.streams.proofs.stream.receive.Goals as goal

pub returns-then-more-eq0 : goal.returns-then-more-eq0
returns-then-more-eq0 g c = received_last c.read_some-more.new.memory c.loop-done.invariant c.read_some-more.auto.memory

pub returns : goal.returns
returns g c = received c.loop-done.invariant
