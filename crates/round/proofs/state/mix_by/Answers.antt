-- `round::state::mix_by` meets its contract. Byte i of the array is row i % 4 of the matrix times column i / 4 of the state (`from_fn` of bits'
-- `laws.Arrays`), as the call ensures: `mix_by` written out.
-- Assumes nothing.
use Rattle.bits.proofs.laws.Arrays.{from_fn}
use Rattle.std.proofs.Common.{rules}
use Rattle.round.specs.State.{state, mix_by}
use Rattle.round.proofs.state.mix_by.Goals as goal

pub returns : goal.returns
unfolding mix_by state
returns c = from_fn _ (λ i y q k. search rules) c.from_fn.ensures.items
