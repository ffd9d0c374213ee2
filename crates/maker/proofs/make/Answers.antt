-- `maker::make` meets its contract: an accepted call has left the set, which is the whole memory (`set_written` of `laws.Writes`), and a refused one the memory as
-- it was, into which the line is written (`line_written`).
-- Assumes nothing.
use mathlib.Core.Path.{sym, ◌∙◌}
use Rattle.layout.proofs.laws.Ten.{ten}
use Rattle.maker.proofs.laws.Writes.{set_written, line_written}
use native.Mathlib.Omega.{arith}
use Rattle.maker.proofs.make.Goals as goal

pub returns-in-Ok : goal.returns-in-Ok
returns-in-Ok c =
    set_written 4 _ _ _ (c.requires ∙ sym ten.all_bytes) c.make_set.ensures.answer c.make_set.ensures.bytes (omega (arith, c.make_set)) (search)

pub returns-in-Err : goal.returns-in-Err
returns-in-Err c =
    line_written 4 _ _ _ (c.requires ∙ sym ten.all_bytes) c.make_set.ensures.answer _ c.make_set.ensures.bytes (search) c.refusal_line.ensures
