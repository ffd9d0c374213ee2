-- `aes::judged` meets its contract. At each return the tests that led there decide the answer, by a law of `laws.Answers` that has them as premises:
-- a key of another length (`bad_key`), a block in of another length (`bad_from`), all of 16 bytes (`good`), a block out of another (`bad_into`).
-- Assumes nothing.
use Rattle.aes.proofs.laws.Answers.{bad_key, bad_from, bad_into, good}
use Rattle.aes.proofs.judged.Goals as goal

pub returns-then-key-ne16 : goal.returns-then-key-ne16
returns-then-key-ne16 c = search bad_key

pub returns-then-block_in-ne16 : goal.returns-then-block_in-ne16
returns-then-block_in-ne16 c = search bad_from

pub returns-then-block_out-eq16 : goal.returns-then-block_out-eq16
returns-then-block_out-eq16 c = search good

pub returns-else-block_out-eq16 : goal.returns-else-block_out-eq16
returns-else-block_out-eq16 c = search bad_into
