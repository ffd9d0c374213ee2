-- `round::state::turn_rows` meets its contract. Byte i of the array is the byte of s in row i % 4 from the column that the row is turned by (`from_fn` of bits'
-- `laws.Arrays`): the contract's state, written out.
-- Assumes nothing.
use Rattle.bits.proofs.laws.Arrays.{from_fn}
use Rattle.std.proofs.Common.{rules}
use Rattle.round.specs.State.{state}
use Rattle.round.proofs.state.turn_rows.Goals as goal

pub returns : goal.returns
unfolding state
returns c = from_fn _ (λ i y q k. search rules) c.from_fn.ensures.items
