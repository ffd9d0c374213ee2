-- `inverse_matrices::inverses::of_table`: by stage, each with a law of `laws.Inverses`: the entry's table is made with
-- the input matrix's inverse (`made_entry`), that of a second half with its column matrix's, which has number 4 (r - 1)
-- + j / 4 (`made_second`), that of a first half or of the exit with none (`made_none`), and from table 16 on with none
-- (`made_xor`). A second half's round is in range by the `requires` (`round_second`).
-- Assumes nothing.
use mathlib.Core.Path.{refl}
use Rattle.inverse_matrices.proofs.laws.Inverses.{column_below, made_entry, made_second, made_xor, made_none}
use Rattle.layout.proofs.laws.Numbers.{round_second}
use native.Mathlib.Omega.{arith}
use Rattle.inverse_matrices.proofs.inverses.of_table.Goals as goal

pub returns-then-j-gt15 : goal.returns-then-j-gt15
returns-then-j-gt15 c = made_xor _ _ _ _ _ _ c.if-j-gt15.true refl

pub returns-in-Entry : goal.returns-in-Entry
returns-in-Entry c =
    made_entry _ _ _ _ _ _ c.if-j-gt15.false c.in-Entry.is c.requires.1 c.of_input.ensures

pub returns-in-First : goal.returns-in-First
returns-in-First c =
    made_none _ _ _ _ _ _ _ c.if-j-gt15.false c.in-First.is refl refl

pub of_column-requires : goal.of_column-requires
of_column-requires c =
    (column_below _ (omega (arith, c.column_number.ensures.1, round_second _ c.in-Second.is c.requires.0)), omega (arith, c.requires))

pub returns-in-Second : goal.returns-in-Second
returns-in-Second c =
    made_second _ _ _ _ _ _ _ _ c.if-j-gt15.false c.in-Second.is c.column_number.ensures.0 c.of_column.ensures

pub returns-in-Exit : goal.returns-in-Exit
returns-in-Exit c =
    made_none _ _ _ _ _ _ _ c.if-j-gt15.false c.in-Exit.is refl refl
