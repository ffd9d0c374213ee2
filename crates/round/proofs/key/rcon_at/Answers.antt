-- `round::key::rcon_at` meets its contract. The table that it reads is `rcon_table` of `laws.Key`, whose eleven numbers were tested against the rule
-- (`rcon_at`).
-- Assumes nothing.
use Rattle.round.proofs.laws.Key.{rcon_table, rcon_at}
use Rattle.round.proofs.key.rcon_at.Goals as goal

pub returns : goal.returns
unfolding rcon_table
returns c = search rcon_at
