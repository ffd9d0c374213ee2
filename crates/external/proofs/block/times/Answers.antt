-- `external::block::times`: the block is read as a vector of 128 bits, multiplied and written again, as `multiply` of specs/ says
-- (`multiplied` of `laws.Code`, whose premises are what the three calls ensure).
-- Assumes nothing.
use Rattle.external.proofs.laws.Code.{multiplied}
use Rattle.external.proofs.block.times.Goals as goal

pub returns : goal.returns
returns c =
    multiplied _ _ _ _ _ _ c.requires.2 c.read-v.ensures c.multiply-p.ensures c.write.ensures
