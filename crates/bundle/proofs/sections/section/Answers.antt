-- `bundle::sections::section` meets its contract. Behind the fifth a section is empty (`section_behind` of `laws.Code`). In a bundle that the frame's
-- judgement accepts, the pairs are there to be read (`pairs_there`), section s ends within the bundle (`section_end`), and the part from the pair's
-- offset on is the section (`section_cut`). In one that it refuses, the section is empty (`section_empty`). No sum wraps: an offset is below 2^32.
-- Assumes nothing.
use mathlib.Core.Path.{sym, ◌∙◌}
use Rattle.bundle.proofs.laws.Code.{framed_rounds, section_behind, pairs_there, section_cut, section_end, section_empty}
use native.Mathlib.Omega.{arith}
use Rattle.bundle.proofs.sections.section.Goals as goal

pub returns-then-s-ge5 : goal.returns-then-s-ge5
returns-then-s-ge5 c = section_behind _ _ _ (search)

pub number_at-a-requires : goal.number_at-a-requires
number_at-a-requires c =
    omega (arith, pairs_there _ _ c.judge_frame.ensures c.in-Ok.is)

pub section_length-requires : goal.section_length-requires
section_length-requires c =
    framed_rounds _ _ (sym c.judge_frame.ensures ∙ c.in-Ok.is)

pub slice_bounds-result-end-in-Ok : goal.slice_bounds-result-end-in-Ok
slice_bounds-result-end-in-Ok c =
    section_end _ _ _ (search) c.in-Ok.is c.number_at-a.ensures.0
    c.section_length.ensures.0 (search)

pub returns-in-Ok : goal.returns-in-Ok
returns-in-Ok c =
    section_cut _ _ _ (search) c.in-Ok.is c.number_at-a.ensures.0 c.section_length.ensures.0

pub returns-in-Err : goal.returns-in-Err
returns-in-Err c =
    section_empty _ _ _ (search) c.in-Err.is
