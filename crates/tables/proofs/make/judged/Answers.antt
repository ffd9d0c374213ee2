-- `tables::make::judged` turns down a key of another length (`judged_key` of `laws.Calls`); else its answer is that of the bundle's judgement
-- (`judged_by`).
-- Assumes nothing.
use Rattle.tables.proofs.laws.Calls.{judged_key, judged_by}
use Rattle.tables.proofs.make.judged.Goals as goal

pub returns-then-key-words : goal.returns-then-key-words
returns-then-key-words c = judged_key _ _ _ (search)

pub returns : goal.returns
returns c = judged_by _ _ _ (search) (search)
