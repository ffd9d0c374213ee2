-- `inverse_matrices::inverses::chosen`: by stage, each with a law of `laws.Inverses`: in a second half the 64 words of
-- the table's column matrix, which stand in `columns` (`chosen_second`), in every other stage `input`
-- (`chosen_spread`), and from table 16 on `input` too (`chosen_xor`). A second half's round is in range by the
-- `requires`, so the number of its column matrix is too and its words are among those of `columns`: the search finds it.
-- Assumes nothing.
use mathlib.Core.Path.{refl}
use Rattle.inverse_matrices.proofs.laws.Inverses.{chosen_xor, chosen_spread, chosen_second}
use Rattle.inverse_matrices.proofs.inverses.chosen.Goals as goal

pub returns-then-j-gt15 : goal.returns-then-j-gt15
returns-then-j-gt15 c = chosen_xor _ _ _ _ c.if-j-gt15.true

pub returns-in-Entry : goal.returns-in-Entry
returns-in-Entry c =
    chosen_spread _ _ _ _ _ _ c.if-j-gt15.false c.in-Entry.is refl

pub returns-in-First : goal.returns-in-First
returns-in-First c =
    chosen_spread _ _ _ _ _ _ c.if-j-gt15.false c.in-First.is refl

pub returns-in-Second : goal.returns-in-Second
returns-in-Second c =
    chosen_second _ _ _ _ _ _ c.if-j-gt15.false c.in-Second.is c.column_number-a.ensures.0

pub returns-in-Exit : goal.returns-in-Exit
returns-in-Exit c =
    chosen_spread _ _ _ _ _ _ c.if-j-gt15.false c.in-Exit.is refl
