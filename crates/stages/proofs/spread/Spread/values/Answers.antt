-- `stages::spread::Spread::values` goes by the kind of the stage. In a first half and in the exit the bytes are read and put behind the S-box
-- (`acted_first`, `acted_exit` of `laws.Acted`); in the entry and in a second half the bytes read are the values, which the search finds. Behind the
-- last stage there is none: it is no stage of the rounds, as the struct says.
-- Assumes nothing.
use Rattle.stages.proofs.laws.Acted.{acted_first, acted_exit}
use Rattle.stages.proofs.spread.Spread.values.Goals as goal

pub returns-in-First : goal.returns-in-First
returns-in-First c =
    acted_first _ _ _ _ _ _ _ _ _ c.in-First.is c.read_bytes.ensures c.behind_sbox.ensures

pub returns-in-Exit : goal.returns-in-Exit
returns-in-Exit c =
    acted_exit _ _ _ _ _ _ _ _ c.in-Exit.is c.read_bytes-in-Exit.ensures c.behind_sbox-in-Exit.ensures
