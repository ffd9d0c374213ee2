-- `round::key::temp_of` meets its contract. Each way out has a law of `laws.Key`, whose premises are the tests on the way and what the calls ensure: at the
-- start of as many words as the key has (`temp_turn`); else for a key of four or six words (`temp_keep`), and for one of eight in their middle
-- (`temp_sub`) or elsewhere (`temp_other`). There are round constants enough (`rcon_small`).
-- Assumes nothing.
use Rattle.round.proofs.laws.Key.{temp_turn, temp_keep, temp_sub, temp_other, rcon_small}
use Rattle.round.proofs.key.temp_of.Goals as goal

pub rcon_at-requires : goal.rcon_at-requires
rcon_at-requires c = rcon_small _ _ (search) (search)

pub returns-then-j-eq0 : goal.returns-then-j-eq0
returns-then-j-eq0 c = search temp_turn

pub returns-then-words-le6 : goal.returns-then-words-le6
returns-then-words-le6 c = temp_keep _ _ _ (search) (search)

pub returns-then-j-eq4 : goal.returns-then-j-eq4
returns-then-j-eq4 c = temp_sub _ _ _ (search) (search) (search) (search)

pub returns : goal.returns
returns c = temp_other _ _ _ (search) (search) (search)
