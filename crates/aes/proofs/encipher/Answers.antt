-- `aes::encipher` meets its contract. The answer is what `judged` ensures. A refusal is returned with the block as it was (`encipher_refused` of
-- `laws.Answers`). Accepted, the key and both blocks have 16 bytes, as the calls ask (`lent_key`, `lent_from`, `lent_into`), and the block is that of
-- the cipher over the expanded key (`encipher_done`); the premises are what the calls ensure.
-- Assumes nothing.
use Rattle.aes.proofs.laws.Answers.{lent_key, lent_from, lent_into, encipher_refused, encipher_done}
use borrow.Author.Rules.{rules}
use Rattle.aes.proofs.encipher.Goals as goal

pub returns-in_err-judged-clause-block : goal.returns-in_err-judged-clause-block
returns-in_err-judged-clause-block c = encipher_refused _ _ _ c.judged.ensures c.in_err-judged.was

pub expand-requires : goal.expand-requires
expand-requires c = (lent_key _ _ _ c.judged.ensures c.in_ok-judged.was, search rules, search rules)

pub load-requires : goal.load-requires
load-requires c = lent_from _ _ _ c.judged.ensures c.in_ok-judged.was

pub store-requires : goal.store-requires
store-requires c = lent_into _ _ _ c.judged.ensures c.in_ok-judged.was

pub returns-clause-block : goal.returns-clause-block
returns-clause-block c = search (encipher_done, c.in_ok-judged.was)
