-- `judgement::judge::first_bad_matrix` meets its contract. The section's matrices are searched; section, size and count are those of the calls before
-- (`matrices_searched` of `laws.Judging`). The section has room for them all, as the frame is accepted (`matrices_asked`).
-- Assumes nothing.
use Rattle.bundle.proofs.laws.Code.{framed_rounds}
use Rattle.judgement.proofs.laws.Judging.{matrices_asked, matrices_searched}
use Rattle.judgement.proofs.judge.first_bad_matrix.Goals as goal

pub first_bad_mixing-requires : goal.first_bad_mixing-requires
first_bad_mixing-requires c =
    matrices_asked _ _ _ c.section.ensures c.part_size.ensures.0 c.part_count.ensures _ c.requires

pub returns : goal.returns
returns c = matrices_searched _ _ _ (search) (search) (search) _ c.first_bad_mixing.ensures

pub part_count-requires : goal.part_count-requires
part_count-requires c =
    framed_rounds _ _ c.requires.framed
