-- `judgement::judge::judge_encodings` meets its contract. The section of the encodings is searched for one that is no permutation, and the judgement
-- is the refusal for what is found (`encodings_judged` of `laws.Judging`): the first is refused (`found_refuses` of answers' `laws.Search`), and without
-- one the encodings are accepted (`found_passes`). The section has room for all of them, as the frame is accepted (`encodings_asked`).
-- Assumes nothing.
use mathlib.Core.Path.{◌∙◌}
use Rattle.answers.specs.declared.Refusal.TheVariants.{Encoding}
use Rattle.answers.proofs.laws.Search.{found_refuses, found_passes}
use Rattle.bundle.proofs.laws.Code.{framed_rounds}
use Rattle.judgement.proofs.laws.Judging.{encodings_asked, encodings_judged}
use Rattle.judgement.proofs.judge.judge_encodings.Goals as goal

pub first_bad_encoding-requires : goal.first_bad_encoding-requires
first_bad_encoding-requires c =
    encodings_asked _ _ c.section.ensures c.part_count.ensures (search)

pub returns-in-Some : goal.returns-in-Some
returns-in-Some c =
    found_refuses _ Encoding _ c.in-Some.is ∙ encodings_judged _ _ (search) (search) c.first_bad_encoding.ensures

pub returns-in-None : goal.returns-in-None
returns-in-None c =
    found_passes _ Encoding c.in-None.is ∙ encodings_judged _ _ (search) (search) c.first_bad_encoding.ensures

pub part_count-requires : goal.part_count-requires
part_count-requires c =
    framed_rounds _ _ c.requires
